use Rattle.std.proofs.Common.{◌≡◌, drop}
use Rattle.scm_selection.specs.KeyFlags.{flagged_keys, has_each}
use Rattle.scm_selection.proofs.key_set.has_each_flagged.Given as goal

-- the set has each key that was passed
abbrev pub invariant-loop-file : goal.invariant-loop-file
invariant-loop-file l = has_each l.set (flagged_keys l.file (drop l.file l.flags)) ≡ has_each l.set (flagged_keys 0 l.flags)
