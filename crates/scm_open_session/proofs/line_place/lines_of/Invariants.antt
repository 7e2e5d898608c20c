use Rattle.std.proofs.Common.{◌≡◌, drop}
use Rattle.scm_open_session.proofs.LineLemmas.{counted}
use Rattle.scm_open_session.proofs.line_place.lines_of.Given as goal

-- the sections that are left
abbrev pub invariant-loop-section : goal.invariant-loop-section
invariant-loop-section l = counted l.is_new l.count (drop l.section-index l.sections) ≡ counted l.is_new 0 l.sections
