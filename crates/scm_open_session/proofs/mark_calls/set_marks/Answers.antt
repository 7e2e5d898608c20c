use Rattle.std.proofs.Common.{Some, refl, ap}
use Rattle.scm_open_session.specs.Boxes.{box_value}
use Rattle.scm_open_session.specs.Marking.{SetsMarks}
use Rattle.scm_open_session.proofs.StageLemmas.{stage-changes}
use Rattle.scm_open_session.proofs.MarkingLemmas.{marks_session_code}
use Rattle.scm_open_session.proofs.mark_calls.set_marks.Goals as goal

pub returns-in-Some-clause-set : goal.returns-in-Some-clause-set
returns-in-Some-clause-set c = λ done.
    stage-changes (SetsMarks c.args.file c.args.marks.now) (box_value c.args.session.now) (Some c.set_marks.new.self) c.in-Some.inner.value c.deref_mut.result.now c.set_marks.new.self
    (ap box_value c.in-Some.is) c.deref_mut.ensures.value refl (c.set_marks.ensures.set done) c.set_marks.ensures.decoder c.set_marks.ensures.painter

pub returns-in-Some-clause-code : goal.returns-in-Some-clause-code
returns-in-Some-clause-code c =
    marks_session_code c.args.file c.args.marks.now (box_value c.args.session.now) c.in-Some.inner.value c.deref_mut.result.now c.set_marks.result
    (ap box_value c.in-Some.is) c.deref_mut.ensures.value c.set_marks.ensures.code
