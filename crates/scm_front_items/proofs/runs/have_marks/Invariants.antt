use Rattle.std.proofs.Common.{◌≡◌, map, take}
use Rattle.scm_types.specs.Marks.{section_marks}
use Rattle.scm_front_items.proofs.runs.have_marks.Given as goal

-- the sections so far have these marks
abbrev pub invariant-loop-index : goal.invariant-loop-index
invariant-loop-index l = map section_marks (take l.index l.sections) ≡ take l.index l.marks
