use Rattle.std.proofs.Common.{◌≡◌, ◌-◌, ◌^◌, min, take}
use Rattle.std.specs.Prelude.{sum_by}
use Rattle.scm_layout.specs.Marked.{checked_in_file}
use Rattle.scm_layout.proofs.marked.checked_in_files.Given as goal

abbrev pub invariant-loop-index : goal.invariant-loop-index
invariant-loop-index l = l.total ≡ min (sum_by checked_in_file (take l.index l.files)) (2 ^ 64 - 1)
