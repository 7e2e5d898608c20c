use Rattle.std.proofs.Common.{◌≡◌, drop}
use Rattle.scm_types.specs.Joined.{with_lines}
use Rattle.scm_types.proofs.side_text.push_context.Given as goal

abbrev pub invariant-loop-line : goal.invariant-loop-line
invariant-loop-line l = record {
  selected : with_lines l.selected (drop l.line-index l.lines) ≡ with_lines l.fn.selected l.lines;
  unselected : with_lines l.unselected (drop l.line-index l.lines) ≡ with_lines l.fn.unselected l.lines;
}
