use Rattle.std.proofs.Common.{Some, refl, ap, ◌∙◌}
use Rattle.scm_open_session.specs.Boxes.{box_value}
use Rattle.scm_open_session.specs.Stages.{Idles, is_waiting}
use Rattle.scm_open_session.proofs.StageLemmas.{decoder-changes}
use Rattle.scm_open_session.proofs.ResultLemmas.{call_code}
use Rattle.scm_open_session.proofs.calls.idle.Goals as goal

pub returns-in-Some-clause-silent : goal.returns-in-Some-clause-silent
returns-in-Some-clause-silent c = λ done.
    decoder-changes Idles (box_value c.args.session.now) (Some c.idle.new.self) c.in-Some.inner.value c.deref_mut.result.now c.idle.new.self
    (ap box_value c.in-Some.is) c.deref_mut.ensures.value refl (c.idle.ensures.silent (c.done_or_not_now.ensures.done done)) c.idle.ensures.painter

pub returns-in-Some-clause-code : goal.returns-in-Some-clause-code
returns-in-Some-clause-code c =
    c.done_or_not_now.ensures.code
    ∙ call_code is_waiting (box_value c.args.session.now) c.in-Some.inner.value c.deref_mut.result.now c.idle.result
    (ap box_value c.in-Some.is) c.deref_mut.ensures.value c.idle.ensures.is_waiting
