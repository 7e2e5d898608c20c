use Rattle.std.proofs.Common.{◌≡◌, ◌++◌, drop, map}
use Rattle.scm_front_items.specs.Targets.{key_of}
use Rattle.scm_front_items.proofs.plans.keys_of.Given as goal

-- the keys so far and those of the deeds that are left are all
abbrev pub invariant-loop-index : goal.invariant-loop-index
invariant-loop-index l = l.keys.items ++ map key_of (drop l.index l.deeds) ≡ map key_of l.deeds
