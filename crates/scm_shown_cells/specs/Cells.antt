-- The cells of a screen as records, and the text of their symbols.
use Rattle.std.specs.Prelude.{◌≡◌, ℕ, zero, suc, ◌+◌, ◌*◌, min, Bool, List, [], ◌∷◌, ◌++◌, length, take, drop, string_bytes, Option, Some, None, is_some, if◌then◌else◌}
use Rattle.scm_cells.specs.declared.style.Colour.{Colour}
use Rattle.scm_cells.specs.declared.style.Colour.TheVariants.{Black, Red, Green, Yellow, Blue, Magenta, Cyan, White}
use Rattle.scm_cells.specs.declared.style.Style.{Style}
use Rattle.scm_terminal.specs.StyledCell.{StyledCell, First, Later, laters}
use Rattle.scm_shown_cells.specs.declared.cell.Cell.{Cell}
use Rattle.scm_shown_cells.specs.declared.cell_list.CellList.{CellList}

-- ---- the record of one place

-- the number of a colour: 0 for the terminal's own, and otherwise 1 to 8
abbrev pub number_of_colour : Option Colour → ℕ
number_of_colour None = 0
number_of_colour (Some Black) = 1
number_of_colour (Some Red) = 2
number_of_colour (Some Green) = 3
number_of_colour (Some Yellow) = 4
number_of_colour (Some Blue) = 5
number_of_colour (Some Magenta) = 6
number_of_colour (Some Cyan) = 7
number_of_colour (Some White) = 8

-- 1 for true, 0 for false
abbrev pub flag : Bool → ℕ
flag b = if b then 1 else 0

-- a sum of 1 for bold, 2 for dim, 4 for underlined and 8 for reversed
abbrev pub flags_of : Style → ℕ
flags_of style = 1 * flag style.bold + 2 * flag style.dim + 4 * flag style.underlined + 8 * flag style.reversed

-- a place where a symbol begins
abbrev pub first_of : ℕ → ℕ → ℕ → Style → Cell
first_of start len columns style = record {
  start = start;
  len = len;
  columns = columns;
  foreground = number_of_colour style.colour;
  background = 0;
  flags = flags_of style;
}

-- a place where none begins
abbrev pub later_of : ℕ → Cell
later_of start = record { start = start; len = 0; columns = 0; foreground = 0; background = 0; flags = 0 }

-- the bytes of the symbol that begins at a cell; none, if none does
abbrev pub bytes_at : StyledCell → List ℕ
bytes_at (First symbol style) = symbol
bytes_at Later = []

-- the record of a cell, behind `start` bytes of the text and before `more` later columns
abbrev pub record_of : ℕ → StyledCell → ℕ → Cell
record_of start (First symbol style) more = first_of start (length symbol) (1 + more) style
record_of start Later more = later_of start

-- ---- rows of places

-- the number of columns from `column` on before the next symbol, among `count` columns
abbrev pub laters_from : (ℕ → Option (List ℕ)) → ℕ → ℕ → ℕ
laters_from symbol column zero = 0
laters_from symbol column (suc count) = if is_some (symbol column) then 0 else suc (laters_from symbol (column + 1) count)

-- the records of the cells of a row, behind `start` bytes of the text
abbrev pub records_of : ℕ → List StyledCell → List Cell
records_of start [] = []
records_of start (cell ∷ cells) = record_of start cell (laters cells) ∷ records_of (start + length (bytes_at cell)) cells

-- the text of their symbols
abbrev pub text_of : List StyledCell → List ℕ
text_of [] = []
text_of (cell ∷ cells) = bytes_at cell ++ text_of cells

-- the records of all rows of a picture
abbrev pub records_of_rows : ℕ → List (List StyledCell) → List Cell
records_of_rows start [] = []
records_of_rows start (row ∷ rows) = records_of start row ++ records_of_rows (start + length (text_of row)) rows

-- the text of all rows
abbrev pub text_of_rows : List (List StyledCell) → List ℕ
text_of_rows [] = []
text_of_rows (row ∷ rows) = text_of row ++ text_of_rows rows

-- ---- lists

-- the list has one cell more, with `more` later columns
pub record AddsCell (cell : StyledCell) (more : ℕ) (old new : CellList) : Type 0 where
  pub cells : new.cells.items ≡ old.cells.items ++ record_of (length (string_bytes old.text)) cell more ∷ []
  pub text : string_bytes new.text ≡ string_bytes old.text ++ bytes_at cell

-- the list has the cells of one row more
pub record Adds (row : List StyledCell) (old new : CellList) : Type 0 where
  pub cells : new.cells.items ≡ old.cells.items ++ records_of (length (string_bytes old.text)) row
  pub text : string_bytes new.text ≡ string_bytes old.text ++ text_of row

-- the list has the cells of some rows more
pub record AddsRows (rows : List (List StyledCell)) (old new : CellList) : Type 0 where
  pub cells : new.cells.items ≡ old.cells.items ++ records_of_rows (length (string_bytes old.text)) rows
  pub text : string_bytes new.text ≡ string_bytes old.text ++ text_of_rows rows

-- the list has the cells of a picture, and no others
pub record AreOf (rows : List (List StyledCell)) (list : CellList) : Type 0 where
  pub cells : list.cells.items ≡ records_of_rows 0 rows
  pub text : string_bytes list.text ≡ text_of_rows rows

-- ---- a caller's buffer

-- the buffer with the cells over its beginning, clipped to the buffer's length
abbrev pub cells_over : List Cell → List Cell → List Cell
cells_over cells buffer = let fits = min (length cells) (length buffer) in take fits cells ++ drop fits buffer
