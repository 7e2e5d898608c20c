use Rattle.std.proofs.Common.{Some, refl, ap, ◌∙◌}
use Rattle.scm_open_session.specs.Boxes.{box_value}
use Rattle.scm_open_session.specs.Stages.{is_waiting}
use Rattle.scm_open_session.specs.Batches.{PressesAll}
use Rattle.scm_open_session.proofs.StageLemmas.{stage-changes}
use Rattle.scm_open_session.proofs.ResultLemmas.{call_code}
use Rattle.scm_open_session.proofs.calls.hand_in_all.Goals as goal

pub returns-in-Some-clause-pressed : goal.returns-in-Some-clause-pressed
returns-in-Some-clause-pressed c = λ done.
    stage-changes (PressesAll c.args.events.now) (box_value c.args.session.now) (Some c.press_all.new.self) c.in-Some.inner.value c.deref_mut.result.now c.press_all.new.self
    (ap box_value c.in-Some.is) c.deref_mut.ensures.value refl (c.press_all.ensures.pressed (c.done_or_not_now.ensures.done done)) c.press_all.ensures.decoder c.press_all.ensures.painter

pub returns-in-Some-clause-code : goal.returns-in-Some-clause-code
returns-in-Some-clause-code c =
    c.done_or_not_now.ensures.code
    ∙ call_code is_waiting (box_value c.args.session.now) c.in-Some.inner.value c.deref_mut.result.now c.press_all.result
    (ap box_value c.in-Some.is) c.deref_mut.ensures.value c.press_all.ensures.is_waiting
