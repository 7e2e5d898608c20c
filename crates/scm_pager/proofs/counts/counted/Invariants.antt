use Rattle.std.proofs.Common.{◌≡◌, drop}
use Rattle.scm_pager.specs.Counts.{counted}
use Rattle.scm_pager.proofs.counts.counted.Given as goal

-- the sections that are left
abbrev pub invariant-loop-section : goal.invariant-loop-section
invariant-loop-section l = counted l.selected l.count (drop l.section-index l.sections) ≡ counted l.selected 0 l.sections
