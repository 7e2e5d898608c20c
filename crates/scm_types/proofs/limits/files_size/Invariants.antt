use Rattle.std.proofs.Common.{◌≡◌, ◌+◌, ◌-◌, ◌^◌, take, length}
use Rattle.std.specs.Prelude.{min, sum_by}
use Rattle.scm_types.specs.Limits.{file_size}
use Rattle.scm_types.proofs.limits.files_size.Given as goal

abbrev pub invariant-loop-file : goal.invariant-loop-file
invariant-loop-file l = l.size ≡ min (length l.files + sum_by file_size (take l.file-index l.files)) (2 ^ 64 - 1)
