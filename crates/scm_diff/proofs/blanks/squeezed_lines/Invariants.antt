use Rattle.std.proofs.Common.{◌≡◌, map, take}
use Rattle.scm_diff.specs.Blanks.{squeezed}
use Rattle.scm_diff.proofs.blanks.squeezed_lines.Given as goal

abbrev pub invariant-loop-line : goal.invariant-loop-line
invariant-loop-line l = l.copies.items ≡ map squeezed (take l.line-index l.lines)
