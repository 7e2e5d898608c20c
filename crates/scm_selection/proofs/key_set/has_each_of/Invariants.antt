use Rattle.std.proofs.Common.{◌≡◌}
use Rattle.scm_selection.specs.KeyFlags.{has_each}
use Rattle.scm_selection.proofs.key_set.has_each_of.Given as goal

-- the set has each key that was passed
abbrev pub invariant-loop-key : goal.invariant-loop-key
invariant-loop-key l = has_each l.set l.key-iterator ≡ has_each l.set l.keys.keys
