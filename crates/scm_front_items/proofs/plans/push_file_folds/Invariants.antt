use Rattle.std.proofs.Common.{◌≡◌, ◌++◌, drop}
use Rattle.scm_front_items.specs.Plans.{file_folds}
use Rattle.scm_front_items.proofs.plans.push_file_folds.Given as goal

-- the deeds so far and those of the keys that are left are all
abbrev pub invariant-loop-index : goal.invariant-loop-index
invariant-loop-index l = l.deeds.items ++ file_folds l.expanded (drop l.index l.keys) ≡ l.fn.deeds.items ++ file_folds l.expanded l.keys
