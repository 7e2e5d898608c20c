use Rattle.std.proofs.Common.{ap, ◌∙◌}
use Rattle.std.proofs.lemmas.Result.{IfErr-weaker, IfOk-weaker}
use Rattle.scm_record.specs.Live.{Live}
use Rattle.scm_front.specs.Driving.{turn_of}
use Rattle.scm_front.specs.Presses.{calls_of}
use Rattle.scm_front.proofs.StartLemmas.{are-flips, presses-memory, presses-refold, presses-unfold}
use Rattle.scm_front.proofs.starting.set_folds.Goals as goal

pub returns-clause-ok : goal.returns-clause-ok
returns-clause-ok c = IfOk-weaker c.press_each.result _ _ (λ turn p. (calls_of p.handled, p.path)) c.press_each.ensures.ok

pub returns-clause-folds : goal.returns-clause-folds
returns-clause-folds c =
    IfOk-weaker c.press_each.result _ _ (λ turn p.
    presses-refold c.args.session c.in_ok-events.events.now (turn_of turn) c.live.ensures.calm (are-flips c.args.is_open _ _ c.in_ok-events.ensures.events) p)
    c.press_each.ensures.ok

pub returns-clause-unfolded : goal.returns-clause-unfolded
returns-clause-unfolded c =
    IfOk-weaker c.press_each.result _ _ (λ turn p.
    presses-unfold c.args.is_open c.args.session c.view_state.result.now c.in_ok-events.events.now (turn_of turn) c.live.ensures.calm
    (c.view_state.ensures.value ∙ ap (λ (l : Live). l.session.shown) c.live.ensures.value) c.in_ok-events.ensures.events p)
    c.press_each.ensures.ok

pub returns-clause-err : goal.returns-clause-err
returns-clause-err c =
    IfErr-weaker c.press_each.result _ _ (λ error h.
    presses-memory c.args.session c.in_ok-events.events.now error c.live.ensures.calm (are-flips c.args.is_open _ _ c.in_ok-events.ensures.events) h)
    c.press_each.ensures.err
