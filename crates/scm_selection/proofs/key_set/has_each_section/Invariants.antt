use Rattle.std.proofs.Common.{◌≡◌, drop}
use Rattle.scm_selection.specs.KeyFlags.{flagged_sections, has_each}
use Rattle.scm_selection.proofs.key_set.has_each_section.Given as goal

-- the set has each key that was passed
abbrev pub invariant-loop-section : goal.invariant-loop-section
invariant-loop-section l = has_each l.set (flagged_sections l.file l.section (drop l.section l.flags)) ≡ has_each l.set (flagged_sections l.file 0 l.flags)
