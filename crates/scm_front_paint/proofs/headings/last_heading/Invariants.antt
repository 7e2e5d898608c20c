use Rattle.std.proofs.Common.{◌≡◌, drop}
use denote.Text.{Utf8}
use denote.Shadow.{shadow}
use Rattle.scm_front_paint.specs.Headings.{last_heading}
use Rattle.scm_front_paint.proofs.headings.last_heading.Given as goal

-- the lines so far have been passed
abbrev pub invariant-loop-line : goal.invariant-loop-line
invariant-loop-line l = shadow (Utf8 l.last) × (last_heading l.last (drop l.line-index l.lines) ≡ last_heading l.above l.lines)
