use Rattle.std.proofs.Common.{◌≡◌, ◌+◌, ◌-◌, ◌^◌, take, length}
use Rattle.std.specs.Prelude.{min, sum_by}
use Rattle.scm_types.specs.Limits.{section_size}
use Rattle.scm_types.proofs.limits.file_size.Given as goal

abbrev pub invariant-loop-section : goal.invariant-loop-section
invariant-loop-section l = l.size ≡ min (length l.section-items + sum_by section_size (take l.section-index l.section-items)) (2 ^ 64 - 1)
