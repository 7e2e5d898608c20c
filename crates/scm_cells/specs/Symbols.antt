-- The symbol that begins at a row and column.
use Rattle.std.specs.Prelude.{ℕ, ◌==◌, List, if◌then◌else◌, Option, Some, None}
use Rattle.std.specs.List.{slice_get}
use Rattle.std.specs.Option.{option_and_then}
use Rattle.scm_cells.specs.Cell.{Cell}

-- the symbol that begins at the cell, or `None` at a later cell of a symbol
abbrev pub symbol_of : Cell → Option (List ℕ)
symbol_of cell = if cell.offset == 0 then Some cell.symbol else None

-- the symbol that begins at a column of a row, or `None` past the last column
abbrev pub symbol_in : List Cell → ℕ → Option (List ℕ)
symbol_in row column = option_and_then symbol_of (slice_get row column)

-- the symbol that begins at a row and column, or `None` past the last row
abbrev pub symbol_at : List (List Cell) → ℕ → ℕ → Option (List ℕ)
symbol_at rows row column = option_and_then (λ cells. symbol_in cells column) (slice_get rows row)
