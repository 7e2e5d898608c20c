-- A view sideways: the session has `x` columns more than the terminal, which shows its columns from `x` on.
use Rattle.std.specs.Prelude.{ℕ, ◌+◌, List, [], ◌∷◌, drop, map}
use Rattle.std.specs.List.{range_with_len}
use Rattle.scm_cells.specs.declared.style.Style.{Style}
use Rattle.scm_terminal.specs.StyledCell.{StyledCell, First, Later, cell_of}
use Rattle.scm_front_paint.specs.Symbols.{Symbols}

-- the cells from `column` on, with blanks in the style of their place for the columns of a symbol that begins further left
abbrev pub with_blank_front : (ℕ → Style) → ℕ → List StyledCell → List StyledCell
with_blank_front style column [] = []
with_blank_front style column (Later ∷ cells) = First (32 ∷ []) (style column) ∷ with_blank_front style (column + 1) cells
with_blank_front style column (First symbol own ∷ cells) = First symbol own ∷ cells

-- the columns of a row from `x` on: column `c` of the terminal is column `x + c` of the session's screen
abbrev pub sideways_row : (ℕ → Style) → ℕ → List StyledCell → List StyledCell
sideways_row style x cells = with_blank_front style x (drop x cells)

-- the cells of row `row`, in styles
abbrev pub styled_symbols : (ℕ → ℕ → Style) → Symbols → ℕ → List StyledCell
styled_symbols style s row = map (λ (column : ℕ). cell_of (s.at row column) (style row column)) (range_with_len 0 s.width)

-- what the terminal shows of row `row` of a screen in styles
abbrev pub sideways_row_of : ℕ → (ℕ → ℕ → Style) → Symbols → ℕ → List StyledCell
sideways_row_of x style s row = sideways_row (style row) x (styled_symbols style s row)

-- what the terminal shows of a screen in styles
abbrev pub sideways_picture : ℕ → (ℕ → ℕ → Style) → Symbols → List (List StyledCell)
sideways_picture x style s = map (sideways_row_of x style s) (range_with_len 0 s.height)
