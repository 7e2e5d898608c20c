use Rattle.std.proofs.Common.{◌≡◌, ◌++◌, drop}
use Rattle.scm_front_items.specs.Ranges.{marking}
use Rattle.scm_front_items.proofs.ranges.push_marking.Given as goal

-- the deeds so far and those of the keys that are left are all
abbrev pub invariant-loop-index : goal.invariant-loop-index
invariant-loop-index l = l.deeds.items ++ marking l.mark (drop l.index l.keys) ≡ l.fn.deeds.items ++ marking l.mark l.keys
