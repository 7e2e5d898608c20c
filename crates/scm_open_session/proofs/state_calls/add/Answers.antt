use Rattle.std.proofs.Common.{Some, refl, ap}
use Rattle.scm_open_session.specs.Boxes.{box_value}
use Rattle.scm_open_session.specs.Building.{Builds}
use Rattle.scm_open_session.proofs.StageLemmas.{stage-changes}
use Rattle.scm_open_session.proofs.BuildLemmas.{closed_session_code, session_code}
use Rattle.scm_open_session.proofs.state_calls.add.Goals as goal

pub returns-in-Some-clause-added : goal.returns-in-Some-clause-added
returns-in-Some-clause-added c = λ done.
    stage-changes (Builds c.args.addition) (box_value c.args.session.now) (Some c.add.new.self) c.in-Some.inner.value c.deref_mut.result.now c.add.new.self
    (ap box_value c.in-Some.is) c.deref_mut.ensures.value refl (c.add.ensures.added done) c.add.ensures.decoder c.add.ensures.painter

pub returns-in-Some-clause-code : goal.returns-in-Some-clause-code
returns-in-Some-clause-code c =
    session_code c.args.addition (box_value c.args.session.now) c.in-Some.inner.value c.deref_mut.result.now c.add.result
    (ap box_value c.in-Some.is) c.deref_mut.ensures.value c.add.ensures.code

pub returns-in-None-clause-code : goal.returns-in-None-clause-code
returns-in-None-clause-code c = closed_session_code c.args.addition (box_value c.args.session.now) (ap box_value c.in-None.is)
