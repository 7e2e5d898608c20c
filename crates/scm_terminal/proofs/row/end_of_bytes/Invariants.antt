use Rattle.std.proofs.Common.{ℕ, ◌-◌, ◌<◌, ◌≤◌, get_or, length}
use Rattle.scm_terminal.specs.Letters.{ShowsByte}
use Rattle.scm_terminal.specs.StyledCell.{Later}
use Rattle.scm_terminal.proofs.row.end_of_bytes.Given as goal

abbrev pub invariant-bytes : goal.invariant-bytes
invariant-bytes l = record {
  low : l.from ≤ l.column;
  high : l.column ≤ length l.cells;
  shown : (k : ℕ) → l.from ≤ k → k < l.column → ShowsByte (get_or l.cells k Later);
}

abbrev pub decreases-bytes : goal.decreases-bytes
decreases-bytes l = length l.cells - l.column
