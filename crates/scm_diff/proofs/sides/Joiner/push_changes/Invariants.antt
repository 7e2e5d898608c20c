use Rattle.std.proofs.Common.{◌≡◌, drop}
use Rattle.scm_types.specs.Split.{changed_lines}
use Rattle.scm_diff.specs.Sides.{with_lines}
use Rattle.scm_diff.proofs.sides.Joiner.push_changes.Given as goal

abbrev pub invariant-loop-line : goal.invariant-loop-line
invariant-loop-line l = with_lines l.self (changed_lines l.selected (drop l.line-index l.lines)) ≡ with_lines l.fn.self (changed_lines l.selected l.lines)
