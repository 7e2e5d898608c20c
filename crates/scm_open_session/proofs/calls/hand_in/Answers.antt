use Rattle.std.proofs.Common.{Some, refl, ap, ◌∙◌}
use Rattle.scm_open_session.specs.Boxes.{box_value}
use Rattle.scm_open_session.specs.Stages.{Presses, is_waiting}
use Rattle.scm_open_session.proofs.StageLemmas.{stage-changes}
use Rattle.scm_open_session.proofs.ResultLemmas.{call_code}
use Rattle.scm_open_session.proofs.calls.hand_in.Goals as goal

pub returns-in-Some-clause-pressed : goal.returns-in-Some-clause-pressed
returns-in-Some-clause-pressed c = λ done.
    stage-changes (Presses c.args.event) (box_value c.args.session.now) (Some c.press.new.self) c.in-Some.inner.value c.deref_mut.result.now c.press.new.self
    (ap box_value c.in-Some.is) c.deref_mut.ensures.value refl (c.press.ensures.pressed (c.done_or_not_now.ensures.done done)) c.press.ensures.decoder c.press.ensures.painter

pub returns-in-Some-clause-code : goal.returns-in-Some-clause-code
returns-in-Some-clause-code c =
    c.done_or_not_now.ensures.code
    ∙ call_code is_waiting (box_value c.args.session.now) c.in-Some.inner.value c.deref_mut.result.now c.press.result
    (ap box_value c.in-Some.is) c.deref_mut.ensures.value c.press.ensures.is_waiting
