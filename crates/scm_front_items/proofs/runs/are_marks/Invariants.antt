use Rattle.std.proofs.Common.{◌≡◌, map, take}
use Rattle.scm_front_items.specs.Runs.{marks_of_file}
use Rattle.scm_front_items.proofs.runs.are_marks.Given as goal

-- the files so far have these marks
abbrev pub invariant-loop-index : goal.invariant-loop-index
invariant-loop-index l = map marks_of_file (take l.index l.files) ≡ take l.index l.marks
