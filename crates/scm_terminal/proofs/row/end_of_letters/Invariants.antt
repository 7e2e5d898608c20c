use Rattle.std.proofs.Common.{◌≡◌, ℕ, ◌-◌, ◌<◌, ◌≤◌, get_or, length}
use Rattle.scm_cells.specs.Symbols.{symbol_in}
use Rattle.scm_terminal.specs.Style.{plain_style}
use Rattle.scm_terminal.specs.StyledCell.{Later, cell_of}
use Rattle.scm_terminal.proofs.row.end_of_letters.Given as goal

abbrev pub invariant-letters : goal.invariant-letters
invariant-letters l = record {
  low : l.from ≤ l.column;
  high : l.column ≤ length l.cells;
  shown : (k : ℕ) → l.from ≤ k → k < l.column → get_or l.cells k Later ≡ cell_of (symbol_in l.columns k) (get_or l.styles k plain_style);
}

abbrev pub decreases-letters : goal.decreases-letters
decreases-letters l = length l.cells - l.column
