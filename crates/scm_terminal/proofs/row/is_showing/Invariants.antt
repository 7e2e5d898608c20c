use Rattle.std.proofs.Common.{◌≡◌, ℕ, ◌-◌, ◌<◌, ◌≤◌, get_or, length}
use Rattle.scm_terminal.specs.StyledCell.{Later, cell_in}
use Rattle.scm_terminal.proofs.row.is_showing.Given as goal

abbrev pub invariant-places : goal.invariant-places
invariant-places l = record {
  high : l.column ≤ length l.cells;
  shown : (k : ℕ) → k < l.column → get_or l.cells k Later ≡ cell_in l.styles l.grid l.row k;
}

abbrev pub decreases-places : goal.decreases-places
decreases-places l = length l.cells - l.column
