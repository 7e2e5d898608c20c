use Rattle.std.proofs.Common.{Some, refl, ap}
use Rattle.scm_open_session.specs.Boxes.{box_value}
use Rattle.scm_open_session.specs.Counting.{PressesAndCounts}
use Rattle.scm_open_session.proofs.StageLemmas.{stage-changes}
use Rattle.scm_open_session.proofs.count_calls.hand_in_and_count.Goals as goal

pub returns-in-Some-press_and_count-clause-pressed : goal.returns-in-Some-press_and_count-clause-pressed
returns-in-Some-press_and_count-clause-pressed c = λ done.
    stage-changes (PressesAndCounts c.args.events.now c.in-Some-press_and_count.count) (box_value c.args.session.now) (Some c.press_and_count.new.self) c.in-Some.inner.value c.deref_mut.result.now c.press_and_count.new.self
    (ap box_value c.in-Some.is) c.deref_mut.ensures.value refl c.in-Some-press_and_count.ensures.pressed c.press_and_count.ensures.decoder c.press_and_count.ensures.painter
