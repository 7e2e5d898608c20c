-- The content of one column of a screen, and the picture of a grid in styles.
use Rattle.std.specs.Prelude.{◌≡◌, ◌<◌, ℕ, suc, List, [], ◌∷◌, length, map, slice_index_or, Option, Some, None}
use Rattle.std.specs.List.{All, range_with_len}
use Rattle.scm_cells.specs.Screen.{Screen}
use Rattle.scm_cells.specs.Symbols.{symbol_at}
use Rattle.scm_cells.specs.declared.style.Style.{Style}
use Rattle.scm_terminal.specs.Style.{plain_style}

-- the content of one column
pub data StyledCell : Type 0 where
  -- the first column of a symbol, with its style
  First : List ℕ → Style → StyledCell
  -- a later column of a symbol
  Later : StyledCell

-- the cell where a symbol begins, in a style, or a later column without one
abbrev pub cell_of : Option (List ℕ) → Style → StyledCell
cell_of None style = Later
cell_of (Some symbol) style = First symbol style

-- the symbol that begins at a cell, if any
abbrev pub symbol_of_cell : StyledCell → Option (List ℕ)
symbol_of_cell (First symbol style) = Some symbol
symbol_of_cell Later = None

-- the byte of a symbol of one byte, and otherwise 0
abbrev pub letter_of : List ℕ → ℕ
letter_of [] = 0
letter_of (b ∷ []) = b
letter_of (b ∷ (c ∷ bs)) = 0

-- the number of later columns before the next symbol
abbrev pub laters : List StyledCell → ℕ
laters [] = 0
laters (Later ∷ ps) = suc (laters ps)
laters (First symbol style ∷ ps) = 0

-- the cell of `grid` at `row` and `column`, counted from 0, in the style of `style row column`
abbrev pub cell_at : (ℕ → ℕ → Style) → Screen → ℕ → ℕ → StyledCell
cell_at style grid row column = cell_of (symbol_at grid.rows row column) (style row column)

-- the cells of row `row` of `grid`, in styles
abbrev pub styled_row : (ℕ → ℕ → Style) → Screen → ℕ → List StyledCell
styled_row style grid row = map (cell_at style grid row) (range_with_len 0 grid.width)

-- the styles of the first `width` places of row `row`
abbrev pub row_of_styles : (ℕ → ℕ → Style) → ℕ → ℕ → List Style
row_of_styles style row width = map (style row) (range_with_len 0 width)

-- the cell of `grid` at `row` and `column`, counted from 0, in the style of that column in `styles`
abbrev pub cell_in : List Style → Screen → ℕ → ℕ → StyledCell
cell_in styles grid row column = cell_of (symbol_at grid.rows row column) (slice_index_or styles column plain_style)

-- the cells of row `row` of `grid`, in the styles of its columns
abbrev pub row_in : List Style → Screen → ℕ → List StyledCell
row_in styles grid row = map (cell_in styles grid row) (range_with_len 0 grid.width)

-- the picture of `grid`: the cells of all rows, in styles
abbrev pub picture : (ℕ → ℕ → Style) → Screen → List (List StyledCell)
picture style grid = map (styled_row style grid) (range_with_len 0 (length grid.rows))

-- `rows` are `height` rows, each of `width` columns
pub record HasSize (width height : ℕ) (rows : List (List StyledCell)) : Type 0 where
  -- the number of rows
  pub high : length rows ≡ height
  -- the number of columns of each row
  pub all_wide : All (λ row. length row ≡ width) rows

-- if `last` has the size of `next`, of `width` columns, the rows before row `first` are the same in both
abbrev pub AreSameBefore : ℕ → ℕ → List (List StyledCell) → List (List StyledCell) → Type 0
AreSameBefore first width last next =
    HasSize width (length next) last → (k : ℕ) → k < first → k < length next → slice_index_or last k [] ≡ slice_index_or next k []
