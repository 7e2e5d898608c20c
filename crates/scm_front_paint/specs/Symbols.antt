-- The symbols of a screen, by their places.
use Rattle.std.specs.Prelude.{ℕ, List, length, Option}
use Rattle.scm_cells.specs.Screen.{Screen}
use Rattle.scm_cells.specs.Symbols.{symbol_at}

-- the numbers of columns and rows, and the symbol that begins at a row and column, if one does
pub record Symbols : Type 0 where
  pub width : ℕ
  pub height : ℕ
  pub at : ℕ → ℕ → Option (List ℕ)

-- the symbols of a grid
abbrev pub symbols_of : Screen → Symbols
symbols_of s = record { width = s.width; height = length s.rows; at = symbol_at s.rows }
