use Rattle.std.proofs.Common.{◌≡◌, drop, fold}
use Rattle.scm_front_items.specs.Plans.{common_with}
use Rattle.scm_front_items.proofs.plans.common_of.Given as goal

abbrev pub invariant-loop-mark : goal.invariant-loop-mark
invariant-loop-mark l =
    fold common_with l.common (drop l.mark-index l.marks) ≡ fold common_with l.fn.before l.marks
