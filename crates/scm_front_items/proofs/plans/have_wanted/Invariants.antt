use Rattle.std.proofs.Common.{◌≡◌, drop}
use Rattle.scm_front_items.specs.Plans.{sections_agree}
use Rattle.scm_front_items.proofs.plans.have_wanted.Given as goal

abbrev pub invariant-loop-index : goal.invariant-loop-index
invariant-loop-index l =
    sections_agree l.wanted l.index (drop l.index l.sections) ≡ sections_agree l.wanted 0 l.sections
