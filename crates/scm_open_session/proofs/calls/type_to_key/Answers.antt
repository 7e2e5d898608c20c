use Rattle.std.proofs.Common.{ap}
use Rattle.scm_open_session.specs.Boxes.{box_value}
use Rattle.scm_open_session.proofs.StageLemmas.{typed_to_key}
use Rattle.scm_open_session.proofs.calls.type_to_key.Goals as goal

pub returns-in-Some-hear_to_key-clause-typed : goal.returns-in-Some-hear_to_key-clause-typed
returns-in-Some-hear_to_key-clause-typed c = λ done.
    typed_to_key c.args.bytes.now (box_value c.args.session.now) c.in-Some.inner.value c.deref_mut.result.now c.hear_to_key.new.self
    c.in-Some-hear_to_key.sent c.in-Some-hear_to_key.found (ap box_value c.in-Some.is) c.deref_mut.ensures.value c.in-Some-hear_to_key.ensures.typed
