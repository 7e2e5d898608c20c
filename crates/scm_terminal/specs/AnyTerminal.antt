-- A terminal of any widths, by what may follow a command. A symbol of several bytes may change any
-- column of its row: it may take any number of columns, be drawn further left, or be left out. A
-- symbol of one byte takes one column, and the other symbols of one byte stay. Nothing is known of
-- a symbol while symbols wrap, or if the cursor is unknown, or if it need not stay on its row
-- (`stays_on_row`): then it may wrap, scroll, or join the row above.
use Rattle.std.specs.Prelude.{◌≡◌, ◌≢◌, ℕ, ◌+◌, ◌≤◌, ◌<◌, if◌then◌else◌, Bool, true, false, List, [], ◌∷◌, length, slice_index_or, slice_set, Option, Some, None}
use Rattle.scm_cells.specs.declared.style.Style.{Style}
use Rattle.scm_terminal.specs.StyledCell.{StyledCell, First, HasSize}
use Rattle.scm_terminal.specs.Sent.{stays_on_row}
use Rattle.scm_terminal.specs.Terminal.{Spot, Command, MoveTo, SetStyle, Put, SetWrap}

-- what a terminal shows, and its state; rows and columns are counted from 0
pub record Display : Type 0 where
  -- the width in columns
  pub width : ℕ
  -- the content of each row
  pub rows : List (List Spot)
  -- the row of the cursor, if known
  pub row : Option ℕ
  -- the column of the cursor, if known
  pub column : Option ℕ
  -- the current style, if known
  pub style : Option Style
  -- whether a symbol without room wraps to the next row, if known
  pub wraps : Option Bool

-- the content of a place
abbrev pub spot_at : Display → ℕ → ℕ → Spot
spot_at t row column = slice_index_or (slice_index_or t.rows row []) column None

-- the place shows the symbol of one byte `b` in `style`
abbrev pub ShowsByte : Display → ℕ → ℕ → ℕ → Style → Type 0
ShowsByte t row column b style = spot_at t row column ≡ Some (First (b ∷ []) style)

-- from `t` to `u` only row `row` has changed, and the cursor is on it
pub record ChangesRow (row : ℕ) (t u : Display) : Type 0 where
  pub wide : u.width ≡ t.width
  pub high : length u.rows ≡ length t.rows
  pub others : (k : ℕ) → k ≢ row → slice_index_or u.rows k [] ≡ slice_index_or t.rows k []
  pub at : u.row ≡ Some row
  pub style : u.style ≡ t.style
  pub wraps : u.wraps ≡ t.wraps

-- from `t` to `u` the byte `b` was put at `row` and `column` in `style`
pub record PutsByte (row column b : ℕ) (style : Style) (t u : Display) : Type 0 where
  -- it stands there
  pub shows : ShowsByte u row column b style
  -- other symbols of one byte stay
  pub stay : (k c : ℕ) → (s : Style) → k ≢ column → ShowsByte t row k c s → ShowsByte u row k c s
  -- the cursor is at the next column, if there is one
  pub moves : column + 1 < t.width → u.column ≡ Some (column + 1)

-- what is known of a symbol that is put
pub record Puts (symbol : List ℕ) (t u : Display) : Type 0 where
  -- if no symbol wraps, and this one stays on its row, only the row of the cursor changes
  pub stays : (row column : ℕ) → t.wraps ≡ Some false → t.row ≡ Some row → t.column ≡ Some column
      → stays_on_row t.width column symbol ≡ true → ChangesRow row t u
  -- if it has one byte, it takes one column
  pub byte : (row column b : ℕ) → (style : Style)
      → t.wraps ≡ Some false → t.row ≡ Some row → t.column ≡ Some column → t.style ≡ Some style
      → row < length t.rows → column < t.width → symbol ≡ b ∷ [] → PutsByte row column b style t u

-- after the command, a terminal that was `t` may be `u`
abbrev pub May : Command → Display → Display → Type 0
May (MoveTo row column) t u =
    row < length t.rows → column < t.width → u ≡ record t { row = Some row; column = Some column }
May (SetStyle style) t u = u ≡ record t { style = Some style }
May (Put symbol columns) t u = Puts symbol t u
May (SetWrap wraps) t u = u ≡ record t { wraps = Some wraps }

-- after the commands, a terminal that was `t` may be `u`
unfoldable pub Might : List Command → Display → Display → Type 0
Might [] t u = u ≡ t
Might (c ∷ cs) t u = (middle : Display) × (May c t middle × Might cs middle u)

-- each symbol of one byte of row `row` of `rows` stands at its place
abbrev pub ShowsRow : Display → List (List StyledCell) → ℕ → Type 0
ShowsRow t rows row = (column b : ℕ) → (style : Style)
    → column < length (slice_index_or rows row [])
    → slice_index_or (slice_index_or rows row []) column (First [] style) ≡ First (b ∷ []) style
    → ShowsByte t row column b style

-- the display has `width` columns, and `height` rows or more
pub record HasPlaces (t : Display) (width height : ℕ) : Type 0 where
  pub wide : t.width ≡ width
  pub high : height ≤ length t.rows

-- two displays have the same size
pub record IsAsLarge (t u : Display) : Type 0 where
  pub wide : u.width ≡ t.width
  pub high : length u.rows ≡ length t.rows

-- `commands` paint the picture `next`, after the picture `last`, on every terminal of any widths that
-- has room for it:
-- - `keeps`, `below`: each row that did not change stays as it was, and each row below the picture;
-- - `shows`: each symbol of one byte of a row stands at its place afterwards, whatever the row showed
--   before. If `last` has the same size, those of this row of `last` have to stand at their places
--   before.
-- - `sized`: the size of the terminal is unchanged;
-- - `wraps`: symbols wrap afterwards if they wrapped before.
pub record KeepsPlaces (width : ℕ) (last next : List (List StyledCell))
    (commands : List Command) : Type 0 where
  pub keeps : (t u : Display) → HasPlaces t width (length next) → Might commands t u
      → HasSize width (length next) last → (row : ℕ)
      → slice_index_or last row [] ≡ slice_index_or next row []
      → slice_index_or u.rows row [] ≡ slice_index_or t.rows row []
  pub below : (t u : Display) → HasPlaces t width (length next) → Might commands t u
      → (row : ℕ) → length next ≤ row
      → slice_index_or u.rows row [] ≡ slice_index_or t.rows row []
  pub shows : (t u : Display) → HasPlaces t width (length next) → Might commands t u
      → (row : ℕ) → row < length next → (HasSize width (length next) last → ShowsRow t last row)
      → ShowsRow u next row
  pub sized : (t u : Display) → HasPlaces t width (length next) → Might commands t u
      → IsAsLarge t u
  pub wraps : (t u : Display) → HasPlaces t width (length next) → Might commands t u
      → t.wraps ≡ Some true → u.wraps ≡ Some true

-- ---- terminals of which all this holds

-- How a terminal shows a symbol of several bytes: the row after the symbol at a column, in a style.
-- It may follow widths of its own, draw past the last column of the row, leave the symbol out, or
-- change any other column.
abbrev pub Showing : Type 0
Showing = List ℕ → ℕ → Style → List Spot → List Spot

-- What a terminal does with a symbol that may leave its row: anything, as scrolling
abbrev pub Leaving : Type 0
Leaving = List ℕ → Display → Display

-- the row after a symbol at `column`: a symbol of one byte takes that column
abbrev pub row_after : Showing → List ℕ → ℕ → Style → List Spot → List Spot
row_after showing [] column style row = showing [] column style row
row_after showing (b ∷ []) column style row = slice_set row column (Some (First (b ∷ []) style))
row_after showing (b ∷ (c ∷ cs)) column style row = showing (b ∷ (c ∷ cs)) column style row

-- the display after a symbol at the cursor, if it is known
abbrev pub display_after : Showing → Leaving → List ℕ → Option ℕ → Option ℕ → Option Style
    → Display → Display
display_after showing leaving symbol None column style t = t
display_after showing leaving symbol (Some row) None style t = t
display_after showing leaving symbol (Some row) (Some column) None t = t
display_after showing leaving symbol (Some row) (Some column) (Some style) t =
    if stays_on_row t.width column symbol then
    record t {
      rows =
          slice_set t.rows row
          (row_after showing symbol column style (slice_index_or t.rows row []));
      column = Some (column + 1);
    }
    else leaving symbol t

-- the display after a command
abbrev pub step : Showing → Leaving → Command → Display → Display
step showing leaving (MoveTo row column) t = record t { row = Some row; column = Some column }
step showing leaving (SetStyle style) t = record t { style = Some style }
step showing leaving (Put symbol columns) t =
    display_after showing leaving symbol t.row t.column t.style t
step showing leaving (SetWrap wraps) t = record t { wraps = Some wraps }

-- each row has the display's width
abbrev pub AreWide : Display → Type 0
AreWide t = (row : ℕ) → row < length t.rows → length (slice_index_or t.rows row []) ≡ t.width
