use Rattle.std.proofs.Common.{◌≡◌, drop}
use Rattle.scm_front_items.specs.Plans.{with_plan}
use Rattle.scm_front_items.proofs.plans.push_deeds.Given as goal

abbrev pub invariant-loop-index : goal.invariant-loop-index
invariant-loop-index l =
    with_plan l.part l.wanted l.index (drop l.index l.files) l.deeds.items ≡ with_plan l.part l.wanted 0 l.files l.fn.deeds.items
