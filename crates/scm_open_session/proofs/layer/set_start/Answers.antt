use Rattle.scm_open_session.proofs.LayeredLemmas.{set_at}
use Rattle.scm_open_session.proofs.layer.set_start.Goals as goal

pub returns-clause-ok : goal.returns-clause-ok
returns-clause-ok c =
    set_at c.args.folds c.args.first c.args.view c.into_parts-front.result.0 c.into_parts-front.result.1 c.in_ok-turn.turn c.in_ok-turn.ensures.ok.0 c.shown.result
    c.into_parts-front.ensures.front c.into_parts-front.ensures.pane c.in_ok-turn.ensures.ok.1 c.in_ok-turn.ensures.starts c.in_ok-turn.ensures.kept
    c.shown.ensures.ok
