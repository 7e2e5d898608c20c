use Rattle.std.proofs.Common.{◌≡◌, drop}
use Rattle.scm_front_items.specs.Plans.{with_mode_deeds}
use Rattle.scm_front_items.proofs.plans.push_modes.Given as goal

abbrev pub invariant-loop-index : goal.invariant-loop-index
invariant-loop-index l =
    with_mode_deeds l.file l.mark l.wanted l.index (drop l.index l.sections) l.deeds.items ≡ with_mode_deeds l.file l.mark l.wanted 0 l.sections l.fn.deeds.items
