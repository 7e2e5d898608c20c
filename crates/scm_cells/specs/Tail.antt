-- The end of a row that is blank.
use Rattle.std.specs.Prelude.{◌≡◌, ℕ, ◌≤◌, List, slice_index_or}
use Rattle.scm_cells.specs.Cell.{Cell, blank}

-- each cell of the row from column `n` on is a space
pub record IsBlankFrom (n : ℕ) (row : List Cell) : Type 0 where
  pub cells : (i : ℕ) → n ≤ i → slice_index_or row i blank ≡ blank
