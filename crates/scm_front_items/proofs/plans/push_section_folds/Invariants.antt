use Rattle.std.proofs.Common.{◌≡◌, ◌++◌, drop}
use Rattle.scm_front_items.specs.Plans.{section_folds}
use Rattle.scm_front_items.proofs.plans.push_section_folds.Given as goal

-- the deeds so far and those of the keys that are left are all
abbrev pub invariant-loop-index : goal.invariant-loop-index
invariant-loop-index l = l.deeds.items ++ section_folds l.expanded (drop l.index l.keys) ≡ l.fn.deeds.items ++ section_folds l.expanded l.keys
