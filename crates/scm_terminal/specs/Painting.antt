-- The commands that a painter writes: those of the rows that changed, each from its first column.
use Rattle.std.specs.Prelude.{◌≡◌, ◌↔◌, ℕ, ◌+◌, ◌==◌, ◌&&◌, not, List, [], ◌∷◌, ◌++◌, Bool, true, false, if◌then◌else◌, length, Option, Some, None}
use Rattle.std.specs.List.{AllZip, list_any}
use Rattle.scm_cells.specs.declared.style.Style.{Style}
use Rattle.scm_terminal.specs.declared.pen.Pen.{Pen}
use Rattle.scm_terminal.specs.declared.pen.Pass.{Pass}
use Rattle.scm_terminal.specs.declared.pen.Pass.TheVariants.{Blanks, Symbols, Letters}
use Rattle.scm_terminal.specs.StyledCell.{StyledCell, First, Later, laters}
use Rattle.scm_terminal.specs.Style.{style_code, plain_style}
use Rattle.scm_terminal.specs.Sent.{sent_row}
use Rattle.scm_terminal.specs.Terminal.{Command, MoveTo, SetStyle, Put, SetWrap}

-- the pen at the beginning of a row: nothing is known
abbrev pub new_pen : Pen
new_pen = record { is_there = false; style = None }

-- whether a style is the terminal's current style, if known
abbrev pub is_style_set : Option Style → Style → Bool
is_style_set None style = false
is_style_set (Some set) style = style_code set == style_code style

-- the commands that move the cursor to `row` and `column`, unless it is there
abbrev pub move_commands : Bool → ℕ → ℕ → List Command
move_commands is_there row column = if is_there then [] else MoveTo row column ∷ []

-- the commands that set `style`, unless it is `set`
abbrev pub style_commands : Option Style → Style → List Command
style_commands set style = if is_style_set set style then [] else SetStyle style ∷ []

-- The commands of a cell whose symbol has `columns` columns. The cursor is moved to each symbol of
-- several bytes, even if it is there: the symbol is then read apart from the one before it.
abbrev pub cell_commands : ℕ → ℕ → Pen → StyledCell → ℕ → List Command
cell_commands row column pen Later columns = []
cell_commands row column pen (First symbol style) columns =
    move_commands (pen.is_there && (length symbol == 1)) row column
    ++ (style_commands pen.style style ++ (Put symbol columns ∷ []))

-- the pen after a cell: the cursor is known to be at the next cell after a symbol of one byte
abbrev pub pen_after : Pen → StyledCell → Pen
pen_after pen Later = record { is_there = false; style = pen.style }
pen_after pen (First symbol style) = record { is_there = length symbol == 1; style = Some style }

-- What a pass puts at a cell, or `Later` for nothing. The first pass blanks the later columns of
-- symbols, the second puts the symbols of several bytes, and the third those of one byte. The first
-- also blanks the column of a symbol of several bytes if the cursor is there, which saves a move.
abbrev pub passed : Pass → Bool → StyledCell → StyledCell
passed Blanks is_there (First symbol style) =
    if is_there && not (length symbol == 1) then First (32 ∷ []) plain_style else Later
passed Blanks is_there Later = First (32 ∷ []) plain_style
passed Symbols is_there (First symbol style) =
    if length symbol == 1 then Later else First symbol style
passed Symbols is_there Later = Later
passed Letters is_there (First symbol style) =
    if length symbol == 1 then First symbol style else Later
passed Letters is_there Later = Later

-- the columns of what a pass puts at a cell, if `more` later columns follow it
abbrev pub columns_in : Pass → ℕ → ℕ
columns_in Blanks more = 1
columns_in Symbols more = 1 + more
columns_in Letters more = 1

-- the commands of a pass for the cells of row `row`, of which the first is at `column`
unfoldable pub pass_commands : Pass → ℕ → ℕ → Pen → List StyledCell → List Command
pass_commands pass row column pen [] = []
pass_commands pass row column pen (p ∷ ps) =
    cell_commands row column pen (passed pass pen.is_there p) (columns_in pass (laters ps))
    ++ pass_commands pass row (column + 1) (pen_after pen (passed pass pen.is_there p)) ps

-- the commands of the cells of row `row`: a terminal that shows a symbol of several bytes in other
-- columns than ours has shown it before the symbols of one byte are put
unfoldable pub row_commands : ℕ → List StyledCell → List Command
row_commands row cells =
    pass_commands Blanks row 0 new_pen cells
    ++ (pass_commands Symbols row 0 new_pen cells ++ pass_commands Letters row 0 new_pen cells)

-- a row of the picture
pub record Line : Type 0 where
  -- the columns of the row, from the left
  pub cells : List StyledCell
  -- whether the paint writes the row
  pub is_changed : Bool

-- a row of the picture that is sent for `line`
abbrev pub sent_line : Line → Line
sent_line line = record { cells = sent_row line.cells; is_changed = line.is_changed }

-- the commands of `line`, the row with the index `row`: none unless it is changed
abbrev pub line_commands : ℕ → Line → List Command
line_commands row line = if line.is_changed then row_commands row line.cells else []

-- the commands of rows, of which the first has the index `row`
unfoldable pub painting : ℕ → List Line → List Command
painting row [] = []
painting row (line ∷ lines) = line_commands row line ++ painting (row + 1) lines

-- the commands of a paint: those of the rows, if any is changed, while no symbol wraps
unfoldable pub paint_commands : List Line → List Command
paint_commands lines =
    if list_any (λ line. line.is_changed) lines then
    SetWrap false ∷ (painting 0 lines ++ (SetWrap true ∷ []))
    else []

-- `line` is left out exactly if not all rows are written and its cells are those of `before`
abbrev pub IsUpdate : Bool → List StyledCell → Line → Type 0
IsUpdate is_all before line =
    (line.is_changed ≡ false) ↔ ((is_all ≡ false) × (line.cells ≡ before))

-- each line is an update of the row with the same index
abbrev pub AreUpdates : Bool → List (List StyledCell) → List Line → Type 0
AreUpdates is_all = AllZip (IsUpdate is_all)
