-- A grid as rows of cells with counts.
use Rattle.std.specs.Prelude.{◌≡◌, ℕ, ◌<◌, ◌^◌, List, [], length, replicate, slice_index_or, slice_set, ℤ}
use Rattle.std.specs.List.{All, flat_map}
use Rattle.scm_cells.specs.Cell.{Cell, blank}
use Rattle.scm_cells.specs.Counts.{Counts, no_counts, added}
use Rattle.scm_cells.specs.Row.{IsWhole, put, row_text}

-- a grid: its width in columns, its rows, and the counts since it was made or cleared
pub record Screen : Type 0 where
  pub width : ℕ
  pub rows : List (List Cell)
  pub counts : Counts

-- each row has the grid's width and holds whole symbols; width and height are below 2^16
pub record IsScreen (s : Screen) : Type 0 where
  pub columns : All (λ row. length row ≡ s.width) s.rows
  pub symbols : All IsWhole s.rows
  pub width : s.width < 2 ^ 16
  pub height : length s.rows < 2 ^ 16

-- a grid of spaces with no counts
abbrev pub blank_screen : ℕ → ℕ → Screen
blank_screen width height = record { width = width; rows = replicate height (replicate width blank); counts = no_counts }

-- the grid after a text is put on `row` at `column`, clipped to the columns `low..high`
abbrev pub put_on : Screen → ℕ → ℤ → List ℕ → ℕ → ℕ → Screen
put_on s row column text low high =
    record s { rows = slice_set s.rows row (put (slice_index_or s.rows row []) column text low high) }

-- the grid with `more` added to its counts
abbrev pub after_count : Screen → Counts → Screen
after_count s more = record s { counts = added s.counts more }

-- the texts of the rows, joined
abbrev pub view_of : List (List Cell) → List ℕ
view_of rows = flat_map row_text rows
