use Rattle.std.proofs.Common.{◌≡◌, None, drop}
use Rattle.scm_pager.specs.Sides.{last_mark}
use Rattle.scm_pager.proofs.lines.last_mark.Given as goal

-- the sections that are left
abbrev pub invariant-loop-section : goal.invariant-loop-section
invariant-loop-section l = last_mark l.mark (drop l.section-index l.sections) ≡ last_mark None l.sections
