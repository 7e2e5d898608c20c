-- Symbols that are one character of ASCII.
use Rattle.std.specs.Prelude.{◌≡◌, ℕ, ◌<◌, List, [], ◌∷◌, Option, Some, None, IsTrue}
use Rattle.std.specs.Int.{is_in_range}
use Rattle.scm_cells.specs.Cell.{Cell}
use Rattle.scm_cells.specs.Symbols.{symbol_in}
use Rattle.scm_terminal.specs.StyledCell.{StyledCell, symbol_of_cell}

-- the symbol that begins at a column is the printable character b of ASCII
pub record IsLetterAt (row : List Cell) (column b : ℕ) : Type 0 where
  pub is_it : symbol_in row column ≡ Some (b ∷ [])
  pub printable : IsTrue (is_in_range 0x20 0x7E b)

-- the cell shows a symbol of one byte
pub record ShowsByte (cell : StyledCell) : Type 0 where
  pub byte : ℕ
  pub is_it : symbol_of_cell cell ≡ Some (byte ∷ [])

-- the cell shows the printable character b of ASCII
pub record ShowsLetter (cell : StyledCell) (b : ℕ) : Type 0 where
  pub is_it : symbol_of_cell cell ≡ Some (b ∷ [])
  pub printable : IsTrue (is_in_range 0x20 0x7E b)

-- the letter b if there is one, and otherwise another symbol, if any
abbrev pub letter_or : Option ℕ → Option (List ℕ) → Option (List ℕ)
letter_or (Some b) symbol = Some (b ∷ [])
letter_or None symbol = symbol

-- a letter is a character of ASCII
abbrev pub HasAscii : Option ℕ → Type 0
HasAscii (Some b) = b < 128
HasAscii None = Unit {0}
