use Rattle.std.proofs.Common.{◌≡◌, drop}
use Rattle.scm_front_items.specs.Plans.{with_line_deeds}
use Rattle.scm_front_items.proofs.plans.push_lines.Given as goal

abbrev pub invariant-loop-index : goal.invariant-loop-index
invariant-loop-index l =
    with_line_deeds l.file l.section l.wanted l.index (drop l.index l.lines) l.deeds.items ≡ with_line_deeds l.file l.section l.wanted 0 l.lines l.fn.deeds.items
