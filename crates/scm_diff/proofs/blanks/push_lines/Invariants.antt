use Rattle.std.proofs.Common.{◌≡◌, ◌++◌, take}
use Rattle.scm_diff.proofs.blanks.push_lines.Given as goal

abbrev pub invariant-loop-line : goal.invariant-loop-line
invariant-loop-line l = l.lines.items ≡ l.fn.lines.items ++ take l.line-index l.more
