use Rattle.std.proofs.Common.{◌≡◌, ◌++◌, drop, map}
use Rattle.scm_types.specs.Marks.{section_marks}
use Rattle.scm_front_items.proofs.runs.marks_of_file.Given as goal

-- the marks so far and those of the sections that are left are all
abbrev pub invariant-loop-section : goal.invariant-loop-section
invariant-loop-section l = l.marks ++ map section_marks (drop l.section-index l.section-items) ≡ map section_marks l.section-items
