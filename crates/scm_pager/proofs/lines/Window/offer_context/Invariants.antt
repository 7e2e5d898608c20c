use Rattle.std.proofs.Common.{◌≡◌, drop, map}
use Rattle.scm_pager.specs.Sides.{context_line}
use Rattle.scm_pager.specs.Windows.{after_all_lines}
use Rattle.scm_pager.proofs.lines.Window.offer_context.Given as goal

-- the lines that are left
abbrev pub invariant-loop-line : goal.invariant-loop-line
invariant-loop-line l = after_all_lines l.self (map context_line (drop l.line-index l.lines)) ≡ after_all_lines l.fn.self (map context_line l.lines)
