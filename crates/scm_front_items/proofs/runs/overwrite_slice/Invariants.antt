use Rattle.std.proofs.Common.{◌≡◌, drop}
use Rattle.scm_front_items.specs.Runs.{overwritten}
use Rattle.scm_front_items.proofs.runs.overwrite_slice.Given as goal

-- what is left to write leads to the same
abbrev pub invariant-loop-mark : goal.invariant-loop-mark
invariant-loop-mark l = overwritten l.place (drop l.mark-index l.marks) l.old ≡ overwritten l.fn.first l.marks l.fn.old
