use Rattle.std.proofs.Common.{◌≡◌, drop}
use Rattle.scm_diff.specs.Sides.{with_lines}
use Rattle.scm_diff.proofs.sides.Joiner.push_context.Given as goal

abbrev pub invariant-loop-line : goal.invariant-loop-line
invariant-loop-line l = with_lines l.self (drop l.line-index l.lines) ≡ with_lines l.fn.self l.lines
