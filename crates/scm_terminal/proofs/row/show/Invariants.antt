use Rattle.std.proofs.Common.{◌≡◌, ℕ, ◌<◌, get_or}
use Rattle.scm_terminal.specs.StyledCell.{Later, cell_in}
use Rattle.scm_terminal.proofs.row.show.Given as goal

abbrev pub invariant-loop-cell : goal.invariant-loop-cell
invariant-loop-cell l = record {
  column : l.column ≡ l.cell-index;
  shown : (k : ℕ) → k < l.cell-index → get_or l.cells k Later ≡ cell_in l.styles l.grid l.row k;
}
