-- A model terminal: its content, and the effect of commands. The painter relies on nothing else of
-- a real terminal. Unknown are: the cursor after a symbol of several bytes, or after one that fills
-- the row; the columns of a symbol that was covered in part; the effect of a symbol without room.
use Rattle.std.specs.Prelude.{◌≡◌, ℕ, zero, suc, ◌+◌, ◌-◌, ◌≤◌, ◌<◌, ◌^◌, ◌==◌, nat_lt, nat_le, Bool, true, false, ◌&&◌, List, [], ◌∷◌, ◌++◌, if◌then◌else◌, length, drop, replicate, slice_index_or, slice_set, Option, Some, None, decimal}
use Rattle.std.specs.List.{All}
use Rattle.std.specs.Option.{option_and_then}
use Rattle.scm_cells.specs.Clusters.{has_control, IsMeasured}
use Rattle.scm_cells.specs.declared.style.Style.{Style}
use Rattle.scm_terminal.specs.StyledCell.{StyledCell, First, Later}
use Rattle.scm_terminal.specs.Style.{style_bytes}

-- the content of a column, if known
abbrev pub Spot : Type 0
Spot = Option StyledCell

-- a terminal; rows and columns are counted from 0
pub record Terminal : Type 0 where
  -- the width in columns
  pub width : ℕ
  -- the content of each row
  pub rows : List (List Spot)
  -- the row and column of the cursor, if known
  pub cursor : Option (ℕ × ℕ)
  -- the current style, if known
  pub style : Option Style

-- the terminal `t` has `height` rows, each of `width` columns
pub record IsOfSize (t : Terminal) (width height : ℕ) : Type 0 where
  -- its width
  pub wide : t.width ≡ width
  -- the number of rows
  pub high : length t.rows ≡ height
  -- the number of columns of each row
  pub all_wide : All (λ row. length row ≡ width) t.rows

-- ---- commands

-- a command to a terminal
pub data Command : Type 0 where
  -- moves the cursor to a row and a column, counted from 0
  MoveTo : ℕ → ℕ → Command
  -- sets the style of the symbols that are written from now on
  SetStyle : Style → Command
  -- writes a symbol, with its columns, at the cursor
  Put : List ℕ → ℕ → Command
  -- sets whether a symbol without room wraps to the next row
  SetWrap : Bool → Command

-- the bytes of a command: CUP of ECMA-48, which counts rows and columns from 1, SGR, the symbol
-- itself, or DECAWM (`ESC [ ? 7 h` wraps, `ESC [ ? 7 l` does not)
unfoldable pub bytes_of : Command → List ℕ
bytes_of (MoveTo row column) =
    (27 ∷ (91 ∷ [])) ++ (decimal (row + 1) ++ ((59 ∷ []) ++ (decimal (column + 1) ++ (72 ∷ []))))
bytes_of (SetStyle style) = style_bytes style
bytes_of (Put symbol columns) = symbol
bytes_of (SetWrap wraps) = (27 ∷ (91 ∷ (63 ∷ (55 ∷ [])))) ++ ((if wraps then 104 else 108) ∷ [])

-- a symbol that is put is a kept cluster, with its columns: UTF-8 without control characters
abbrev pub IsSafe : Command → Type 0
IsSafe (MoveTo row column) = Unit {0}
IsSafe (SetStyle style) = Unit {0}
IsSafe (Put symbol columns) = IsMeasured (symbol, columns)
IsSafe (SetWrap wraps) = Unit {0}

-- the last command before a symbol, styles and wraps left out
pub data Before : Type 0 where
  -- a move of the cursor
  Moved : Before
  -- a symbol of one byte
  Byte : Before
  -- a symbol of several bytes
  Symbol : Before

-- the last command before the symbol after `symbol`: a symbol of one byte, or of several
abbrev pub behind : List ℕ → Before
behind symbol = if length symbol == 1 then Byte else Symbol

-- `symbol` may be put after such a command: any symbol after a move, one of one byte after one of
-- one byte, and none after one of several bytes
abbrev pub MayFollow : Before → List ℕ → Type 0
MayFollow Moved symbol = Unit {0}
MayFollow Byte symbol = length symbol ≡ 1
MayFollow Symbol symbol = ⊥

-- the cursor is moved before and after each symbol of several bytes: no other symbol stands beside
-- it in the bytes
abbrev pub AreApart : Before → List Command → Type 0
AreApart before [] = Unit {0}
AreApart before (MoveTo row column ∷ cs) = AreApart Moved cs
AreApart before (SetStyle style ∷ cs) = AreApart before cs
AreApart before (Put symbol columns ∷ cs) = MayFollow before symbol × AreApart (behind symbol) cs
AreApart before (SetWrap wraps ∷ cs) = AreApart before cs

-- a move stays within 65,536 rows and columns
abbrev pub IsNear : Command → Type 0
IsNear (MoveTo row column) = (row < 2 ^ 16) × (column < 2 ^ 16)
IsNear (SetStyle style) = Unit {0}
IsNear (Put symbol columns) = Unit {0}
IsNear (SetWrap wraps) = Unit {0}

-- `commands` are such that a terminal reads them back from their bytes
pub record AreReadable (commands : List Command) : Type 0 where
  -- they put only kept clusters
  pub safe : All IsSafe commands
  -- they move within 65,536 rows and columns
  pub near : All IsNear commands
  -- they move the cursor before and after each cluster of several bytes
  pub apart : AreApart Symbol commands

-- byte `b` is no control character of a terminal that reads UTF-8: neither a C0 control, such as an
-- escape, nor DEL
abbrev pub IsNotControl : ℕ → Type 0
IsNotControl b = (32 ≤ b) × (b ≡ 127 → ⊥)

-- if a symbol is safe to put, it has no control character and no control byte
abbrev pub HoldsNoControl : List ℕ → ℕ → Type 0
HoldsNoControl symbol columns =
    IsMeasured (symbol, columns) → (has_control symbol ≡ false) × All IsNotControl symbol

-- ---- the effect of a symbol on a row

-- the content of the columns of a symbol
abbrev pub spots_of : List ℕ → ℕ → Style → List Spot
spots_of symbol columns style = Some (First symbol style) ∷ replicate (columns - 1) (Some Later)

-- whether the first of these columns is known to be a later column of a symbol
abbrev pub goes_on : List Spot → Bool
goes_on [] = false
goes_on (None ∷ spots) = false
goes_on (Some Later ∷ spots) = true
goes_on (Some (First symbol style) ∷ spots) = false

-- whether each of the first `n + 1` columns is known to be a later column of a symbol
abbrev pub go_on : ℕ → List Spot → Bool
go_on zero spots = goes_on spots
go_on (suc n) [] = false
go_on (suc n) (None ∷ spots) = false
go_on (suc n) (Some Later ∷ spots) = go_on n spots
go_on (suc n) (Some (First symbol style) ∷ spots) = false

-- the columns before a symbol that is put at a column; unknown are those of a symbol that it covers
-- in part
abbrev pub left_of : ℕ → List Spot → List Spot
left_of zero row = []
left_of (suc n) [] = []
left_of (suc n) (spot ∷ row) = (if go_on n row then None else spot) ∷ left_of n row

-- the columns after a symbol that is put; unknown are the rest of one that it covered in part
abbrev pub rest_of : List Spot → List Spot
rest_of [] = []
rest_of (None ∷ spots) = None ∷ spots
rest_of (Some Later ∷ spots) = None ∷ rest_of spots
rest_of (Some (First symbol style) ∷ spots) = Some (First symbol style) ∷ spots

-- `row` with the columns `symbol` put over it at `column`
unfoldable pub over : List Spot → ℕ → List Spot → List Spot
over row column symbol =
    left_of column row ++ (symbol ++ rest_of (drop (column + length symbol) row))

-- ---- the effect of a command on a terminal

-- the terminal `t` after a symbol at the cursor, if it has room; after a symbol of one byte the
-- cursor is known, unless the symbol fills the row
unfoldable pub put : List ℕ → ℕ → Option (ℕ × ℕ) → Option Style → Terminal → Option Terminal
put symbol columns None style t = None
put symbol columns (Some at) None t = None
put symbol columns (Some at) (Some style) t =
    if nat_le (at.1 + columns) t.width then
    Some (record t {
      rows =
          slice_set t.rows at.0
          (over (slice_index_or t.rows at.0 []) at.1 (spots_of symbol columns style));
      cursor =
          if (length symbol == 1) && nat_lt (at.1 + columns) t.width then
          Some (at.0, at.1 + columns)
          else None;
    })
    else None

-- the terminal after a command; none if the command moves out of the screen, puts a symbol without
-- room for it, or puts one while the cursor or the style is unknown
unfoldable pub after : Command → Terminal → Option Terminal
after (MoveTo row column) t =
    if nat_lt row (length t.rows) && nat_lt column t.width then
    Some (record t { cursor = Some (row, column) })
    else None
after (SetStyle style) t = Some (record t { style = Some style })
after (Put symbol columns) t = put symbol columns t.cursor t.style t
after (SetWrap wraps) t = Some t

-- the terminal after all commands, if there is one after each command
unfoldable pub after_all : List Command → Terminal → Option Terminal
after_all [] t = Some t
after_all (c ∷ cs) t = option_and_then (after_all cs) (after c t)
