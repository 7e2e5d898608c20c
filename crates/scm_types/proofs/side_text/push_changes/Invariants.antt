use Rattle.std.proofs.Common.{◌≡◌, drop, true, false}
use Rattle.scm_types.specs.Joined.{with_lines}
use Rattle.scm_types.specs.Split.{changed_lines}
use Rattle.scm_types.proofs.side_text.push_changes.Given as goal

abbrev pub invariant-loop-line : goal.invariant-loop-line
invariant-loop-line l = record {
  selected : with_lines l.selected (changed_lines true (drop l.line-index l.lines)) ≡ with_lines l.fn.selected (changed_lines true l.lines);
  unselected : with_lines l.unselected (changed_lines false (drop l.line-index l.lines)) ≡ with_lines l.fn.unselected (changed_lines false l.lines);
}
