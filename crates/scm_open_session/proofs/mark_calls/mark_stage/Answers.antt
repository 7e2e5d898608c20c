use Rattle.std.proofs.Common.{ap, refl, sym}
use Rattle.scm_open_session.specs.declared.open_session.Stage.TheVariants.{Building}
use Rattle.scm_open_session.specs.Marking.{code_of_marks_at}
use Rattle.scm_open_session.proofs.MarkingLemmas.{marks_code, sets_marks}
use Rattle.scm_open_session.proofs.mark_calls.mark_stage.Goals as goal

pub returns-in-Building-clause-set : goal.returns-in-Building-clause-set
returns-in-Building-clause-set c = λ done.
    sets_marks c.args.file c.args.marks.now c.args.stage.now (Building c.mark_builder.new.builder) c.in-Building.builder c.mark_builder.new.builder
    c.in-Building.is refl (c.mark_builder.ensures.set done)

pub returns-in-Building-clause-code : goal.returns-in-Building-clause-code
returns-in-Building-clause-code c =
    marks_code c.args.file c.args.marks.now c.args.stage.now c.in-Building.builder c.mark_builder.result c.in-Building.is c.mark_builder.ensures.code

pub returns-in-Waiting-clause-code : goal.returns-in-Waiting-clause-code
returns-in-Waiting-clause-code c = ap (code_of_marks_at c.args.file c.args.marks.now) (sym c.in-Waiting.is)

pub returns-in-Editing-clause-code : goal.returns-in-Editing-clause-code
returns-in-Editing-clause-code c = ap (code_of_marks_at c.args.file c.args.marks.now) (sym c.in-Editing.is)

pub returns-in-Accepted-clause-code : goal.returns-in-Accepted-clause-code
returns-in-Accepted-clause-code c = ap (code_of_marks_at c.args.file c.args.marks.now) (sym c.in-Accepted.is)

pub returns-in-Ended-clause-code : goal.returns-in-Ended-clause-code
returns-in-Ended-clause-code c = ap (code_of_marks_at c.args.file c.args.marks.now) (sym c.in-Ended.is)
