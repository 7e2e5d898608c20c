use Rattle.std.proofs.Common.{Some, refl, ap}
use Rattle.scm_open_session.specs.Boxes.{box_value}
use Rattle.scm_open_session.specs.Building.{BuildsChange}
use Rattle.scm_c_values.specs.Texts.{seen_change}
use Rattle.scm_open_session.proofs.StageLemmas.{stage-changes}
use Rattle.scm_open_session.proofs.BuildLemmas.{change_session_code, closed_change_code}
use Rattle.scm_open_session.proofs.state_calls.add_change.Goals as goal

pub returns-in-Some-clause-added : goal.returns-in-Some-clause-added
returns-in-Some-clause-added c = λ done.
    stage-changes (BuildsChange (seen_change c.args.change)) (box_value c.args.session.now) (Some c.add_change.new.self) c.in-Some.inner.value c.deref_mut.result.now c.add_change.new.self
    (ap box_value c.in-Some.is) c.deref_mut.ensures.value refl (c.add_change.ensures.added done) c.add_change.ensures.decoder c.add_change.ensures.painter

pub returns-in-Some-clause-code : goal.returns-in-Some-clause-code
returns-in-Some-clause-code c =
    change_session_code (seen_change c.args.change) (box_value c.args.session.now) c.in-Some.inner.value c.deref_mut.result.now c.add_change.result
    (ap box_value c.in-Some.is) c.deref_mut.ensures.value c.add_change.ensures.code

pub returns-in-None-clause-code : goal.returns-in-None-clause-code
returns-in-None-clause-code c = closed_change_code (seen_change c.args.change) (box_value c.args.session.now) (ap box_value c.in-None.is)
