use Rattle.std.proofs.Common.{◌≡◌, drop, filter, map}
use Rattle.scm_types.specs.Split.{takes}
use Rattle.scm_pager.specs.Sides.{changed_line}
use Rattle.scm_pager.specs.Windows.{after_all_lines}
use Rattle.scm_pager.proofs.lines.Window.offer_changes.Given as goal

-- the lines that are left
abbrev pub invariant-loop-line : goal.invariant-loop-line
invariant-loop-line l = after_all_lines l.self (map changed_line (filter (takes l.selected) (drop l.line-index l.lines))) ≡ after_all_lines l.fn.self (map changed_line (filter (takes l.selected) l.lines))
