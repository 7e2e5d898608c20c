-- Pictures of blanks with a row below, and the commands that make this row blank.
use Rattle.std.specs.Prelude.{◌≡◌, ℕ, zero, suc, ◌+◌, ◌-◌, ◌<◌, true, false, List, [], ◌∷◌, ◌++◌, length, map, replicate, slice_index_or, Option, IfSome}
use Rattle.std.specs.List.{flat_map, range_with_len}
use Rattle.scm_cells.specs.Cell.{blank}
use Rattle.scm_cells.specs.Counts.{no_counts}
use Rattle.scm_cells.specs.Screen.{IsScreen, Screen, blank_screen}
use Rattle.scm_cells.specs.declared.style.Style.{Style}
use Rattle.scm_terminal.specs.Promise.{Paints}
use Rattle.scm_terminal.specs.Style.{plain_style}
use Rattle.scm_terminal.specs.StyledCell.{StyledCell, First, HasSize, picture}
use Rattle.scm_terminal.specs.Terminal.{AreReadable, Command, MoveTo, SetStyle, Put, SetWrap, bytes_of}

-- ---- pictures

-- a row of blanks
abbrev pub blank_cells : ℕ → List StyledCell
blank_cells width = map (λ (column : ℕ). First (32 ∷ []) plain_style) (range_with_len 0 width)

-- all rows of a picture but the last are blank
abbrev pub IsBlankAbove : List (List StyledCell) → Type 0
IsBlankAbove rows =
    (width height : ℕ) → HasSize width (height + 1) rows → (k : ℕ) → k < height → slice_index_or rows k [] ≡ blank_cells width

-- the plain style at each place
abbrev pub plain_at : ℕ → ℕ → Style
plain_at row column = plain_style

-- the picture of `height` rows of blanks, and one more below them
abbrev pub blank_picture : ℕ → ℕ → List (List StyledCell)
blank_picture width height = picture plain_at (blank_screen width (height + 1))

-- all rows of a grid but the last are blank, and nothing was counted
pub record IsBlankGrid (grid : Screen) : Type 0 where
  pub counts : grid.counts ≡ no_counts
  pub above : (k : ℕ) → k + 1 < length grid.rows → slice_index_or grid.rows k [] ≡ replicate grid.width blank

-- what a painter of one row keeps: blanks above the row, in its picture and in its grid
pub record HasBlanks (rows : List (List StyledCell)) (grid : Option Screen) : Type 0 where
  pub rows_are : IsBlankAbove rows
  pub grid_is : IfSome grid IsBlankGrid

-- a grid has `width` columns and `height` rows
pub record HasPlaces (width height : ℕ) (grid : Screen) : Type 0 where
  pub wide : grid.width ≡ width
  pub high : length grid.rows ≡ height
  pub screen : IsScreen grid

-- ---- commands

-- writes a blank
abbrev pub put_blank : Command
put_blank = Put (32 ∷ []) 1

-- the commands before the blanks of row `row`: none if it has no columns
abbrev pub begin_row : ℕ → ℕ → List Command
begin_row zero row = []
begin_row (suc width) row = MoveTo row 0 ∷ (SetStyle plain_style ∷ [])

-- the commands that make row `row` blank, which has `width` columns, while no symbol wraps
unfoldable pub blanking : ℕ → ℕ → List Command
blanking width row = SetWrap false ∷ ((begin_row width row ++ replicate width put_blank) ++ (SetWrap true ∷ []))

-- ---- a paint of the row below

-- What a paint of row `height` begins from, where the terminal shows `known`: from what it shows, or, where nothing is known, from blanks that
-- it writes first.
pub data Begins (width height : ℕ) : List (List StyledCell) → List (List StyledCell) → List Command → Type 0 where
  from_known : {known : List (List StyledCell)} → Begins width height known known []
  from_blanks : Begins width height [] (blank_picture width height) (blanking width height)

-- the bytes are those with which a paint of row `height` begins, and a terminal reads them
pub record IsBeginning (width height : ℕ) (known from : List (List StyledCell)) (bytes : List ℕ) : Type 0 where
  pub commands : List Command
  pub begins : Begins width height known from commands
  pub readable : AreReadable commands
  pub written : bytes ≡ flat_map bytes_of commands

-- The bytes paint the picture `next`, which has blanks on all rows but the last, where `known` was painted last: after their beginning
-- they paint `next` as a painter does.
pub record PaintsLast (width : ℕ) (known next : List (List StyledCell)) (bytes : List ℕ) : Type 0 where
  -- what is known after the beginning
  pub from : List (List StyledCell)
  pub first : List ℕ
  pub second : List ℕ
  pub beginning : IsBeginning width (length next - 1) known from first
  pub paints : Paints width from next second
  pub written : bytes ≡ first ++ second
  -- the commands of both
  pub commands : List Command
  pub are : commands ≡ beginning.commands ++ paints.commands
