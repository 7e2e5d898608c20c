use Rattle.std.proofs.Common.{◌≡◌, take}
use Rattle.scm_selection.specs.KeySet.{key_set}
use Rattle.scm_selection.proofs.key_set.key_set_of.Given as goal

-- the set of the keys so far
abbrev pub invariant-loop-key : goal.invariant-loop-key
invariant-loop-key l = l.set ≡ key_set (take l.key-index l.keys)
