use Rattle.std.proofs.Common.{Some, refl, ap, ◌∙◌}
use Rattle.scm_open_session.specs.Boxes.{box_value}
use Rattle.scm_open_session.specs.Stages.{Types, is_waiting}
use Rattle.scm_open_session.proofs.StageLemmas.{decoder-changes}
use Rattle.scm_open_session.proofs.ResultLemmas.{call_code}
use Rattle.scm_open_session.proofs.calls.type_bytes.Goals as goal

pub returns-in-Some-clause-typed : goal.returns-in-Some-clause-typed
returns-in-Some-clause-typed c = λ done.
    decoder-changes (Types c.args.bytes.now) (box_value c.args.session.now) (Some c.hear.new.self) c.in-Some.inner.value c.deref_mut.result.now c.hear.new.self
    (ap box_value c.in-Some.is) c.deref_mut.ensures.value refl (c.hear.ensures.typed (c.done_or_not_now.ensures.done done)) c.hear.ensures.painter

pub returns-in-Some-clause-code : goal.returns-in-Some-clause-code
returns-in-Some-clause-code c =
    c.done_or_not_now.ensures.code
    ∙ call_code is_waiting (box_value c.args.session.now) c.in-Some.inner.value c.deref_mut.result.now c.hear.result
    (ap box_value c.in-Some.is) c.deref_mut.ensures.value c.hear.ensures.is_waiting
