use Rattle.std.proofs.Common.{◌≡◌, drop}
use Rattle.scm_types.specs.Marks.{section_marks}
use Rattle.scm_front_items.specs.Steps.{agree}
use Rattle.scm_front_items.proofs.steps.agree.Given as goal

-- the marks that are left decide
abbrev pub invariant-loop-mark : goal.invariant-loop-mark
invariant-loop-mark l =
    agree l.place (drop l.mark-index l.marks) (section_marks l.section) ≡ agree l.fn.first l.marks (section_marks l.section)
