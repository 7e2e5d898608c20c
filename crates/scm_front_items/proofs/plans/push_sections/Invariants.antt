use Rattle.std.proofs.Common.{◌≡◌, drop}
use Rattle.scm_front_items.specs.Plans.{with_deeds_of_sections}
use Rattle.scm_front_items.proofs.plans.push_sections.Given as goal

abbrev pub invariant-loop-index : goal.invariant-loop-index
invariant-loop-index l =
    with_deeds_of_sections l.file l.wanted l.index (drop l.index l.sections) l.deeds.items ≡ with_deeds_of_sections l.file l.wanted 0 l.sections l.fn.deeds.items
