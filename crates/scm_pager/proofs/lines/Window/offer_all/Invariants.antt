use Rattle.std.proofs.Common.{◌≡◌, drop}
use Rattle.scm_pager.specs.Windows.{after_sections}
use Rattle.scm_pager.proofs.lines.Window.offer_all.Given as goal

-- the sections that are left
abbrev pub invariant-loop-section : goal.invariant-loop-section
invariant-loop-section l = after_sections l.selected l.self (drop l.section-index l.sections) ≡ after_sections l.selected l.fn.self l.sections
