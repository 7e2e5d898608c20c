use Rattle.std.proofs.Common.{◌≡◌, drop, length}
use Rattle.scm_pager.specs.Pages.{with_lines}
use Rattle.scm_pager.proofs.draw.put_lines.Given as goal

abbrev pub invariant-loop-row : goal.invariant-loop-row
invariant-loop-row l = record {
  -- the lines that are left
  lines : with_lines l.fn.grid.width l.pager l.row (drop l.row l.lines) l.grid ≡ with_lines l.fn.grid.width l.pager 0 l.lines l.fn.grid;
  width : l.grid.width ≡ l.fn.grid.width;
  height : length l.grid.rows ≡ length l.fn.grid.rows;
}
