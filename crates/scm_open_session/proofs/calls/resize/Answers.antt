use Rattle.std.proofs.Common.{Some, refl, ap}
use Rattle.scm_open_session.specs.Boxes.{box_value}
use Rattle.scm_open_session.specs.Stages.{Resizes}
use Rattle.scm_c_values.specs.Screens.{screen_of}
use Rattle.scm_open_session.proofs.StageLemmas.{stage-changes}
use Rattle.scm_open_session.proofs.ResultLemmas.{closed_code, resized_code}
use Rattle.scm_open_session.proofs.calls.resize.Goals as goal

pub returns-in-Some-clause-resized : goal.returns-in-Some-clause-resized
returns-in-Some-clause-resized c = λ done.
    stage-changes (Resizes (screen_of c.args.width c.args.height)) (box_value c.args.session.now) (Some c.resize.new.self) c.in-Some.inner.value c.deref_mut.result.now c.resize.new.self
    (ap box_value c.in-Some.is) c.deref_mut.ensures.value refl (c.resize.ensures.resized done) c.resize.ensures.decoder c.resize.ensures.painter

pub returns-in-Some-clause-code : goal.returns-in-Some-clause-code
returns-in-Some-clause-code c =
    resized_code (box_value c.args.session.now) c.in-Some.inner.value c.deref_mut.result.now c.resize.result
    (ap box_value c.in-Some.is) c.deref_mut.ensures.value c.resize.ensures.code

pub returns-in-None-clause-code : goal.returns-in-None-clause-code
returns-in-None-clause-code c =
    closed_code (box_value c.args.session.now) 1 (ap box_value c.in-None.is) refl
