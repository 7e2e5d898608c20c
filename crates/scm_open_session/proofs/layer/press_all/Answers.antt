use Rattle.std.proofs.lemmas.Result.{err_from_is_err_and}
use Rattle.scm_record.specs.LiveCalls.{BatchFails}
use Rattle.scm_open_session.proofs.LayeredLemmas.{batch_fails, not_shown, pressed_all}
use Rattle.scm_open_session.proofs.layer.press_all.Goals as goal

pub returns-clause-ok : goal.returns-clause-ok
returns-clause-ok c =
    pressed_all c.args.view c.args.events.now c.into_parts-front.result.0 c.into_parts-front.result.1 c.in_ok-turn.turn c.shown.result
    c.into_parts-front.ensures.front c.into_parts-front.ensures.pane c.in_ok-turn.ensures.ok c.in_ok-turn.ensures.given c.shown.ensures.ok

pub returns-clause-err : goal.returns-clause-err
returns-clause-err c = not_shown (BatchFails c.args.view.front.beneath c.args.events.now) c.shown.result c.shown.ensures.err

pub returns-in_err-turn-clause-err : goal.returns-in_err-turn-clause-err
returns-in_err-turn-clause-err c =
    let p = err_from_is_err_and c.from_residual.result c.from_residual.ensures.1 in
    rw (p.1, p.2) (batch_fails c.args.view c.args.events.now c.into_parts-front.result.0 _ c.into_parts-front.ensures.front c.in_err-turn.ensures.err)
