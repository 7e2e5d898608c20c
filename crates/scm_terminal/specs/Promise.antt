-- The promise of a paint: its bytes bring every terminal of the grid's size to the picture.
use Rattle.std.specs.Prelude.{◌≡◌, ◌≤◌, ℕ, List, [], length, map, slice_index_or, Some}
use Rattle.std.specs.List.{All, flat_map}
use Rattle.scm_terminal.specs.StyledCell.{StyledCell, HasSize}
use Rattle.scm_terminal.specs.Sent.{char_columns, sent_picture}
use Rattle.scm_terminal.specs.AnyTerminal.{KeepsPlaces}
use Rattle.scm_terminal.specs.Adding.{NoneWraps}
use Rattle.scm_terminal.specs.Terminal.{Terminal, Spot, IsOfSize, Command, MoveTo, SetStyle, Put, SetWrap, IsSafe, Symbol, AreApart, bytes_of, after_all}
use Rattle.scm_terminal.specs.Reading.{read_commands}

-- a row of which all columns are known
abbrev pub known_spots : List StyledCell → List Spot
known_spots cells = map Some cells

-- `commands` bring the terminal `t` to one of the same width that shows `rows`
pub record Leads (commands : List Command) (t : Terminal) (rows : List (List Spot)) : Type 0 where
  -- the terminal after the commands
  pub end : Terminal
  -- each command has an effect that the model knows
  pub runs : after_all commands t ≡ Some end
  -- the width is unchanged
  pub stays_wide : end.width ≡ t.width
  -- the terminal shows `rows`
  pub shows : end.rows ≡ rows

-- if the command moves the cursor, `IsOne` is true for its row
abbrev pub MovesTo : (ℕ → Type 0) → Command → Type 0
MovesTo IsOne (MoveTo row column) = IsOne row
MovesTo IsOne (SetStyle style) = Unit {0}
MovesTo IsOne (Put symbol columns) = Unit {0}
MovesTo IsOne (SetWrap wraps) = Unit {0}

-- row `row` of the picture `next` changed: it differs from that row of `last`, if `last` has the
-- same size
abbrev pub HasChanged : ℕ → List (List StyledCell) → List (List StyledCell) → ℕ → Type 0
HasChanged width last next row =
    HasSize width (length next) last → slice_index_or last row [] ≡ slice_index_or next row [] → ⊥

-- `bytes` paint the picture `next`, after the picture `last`:
-- - `written`, `are_read`: the bytes are those of `commands`, and a terminal reads these commands;
-- - `safe`: all symbols that are put are kept clusters, which have no control character;
-- - `apart`: the cursor is moved before and after each cluster of several bytes;
-- - `few`: the cursor is moved only to rows that changed;
-- - `fits`: on a terminal that adds up the columns of code points, and gives none more columns than
--   ours, no code point wraps;
-- - `places`: a terminal of any widths keeps the other rows, and shows each symbol of one byte of
--   `next` at its place;
-- - `shows`: every terminal of this width and height shows `next` afterwards, but for the symbols
--   that are replaced, whatever it showed before. If `last` has the same size, the terminal has to
--   show `last` before, in the same way.
pub record Paints (width : ℕ) (last next : List (List StyledCell)) (bytes : List ℕ) : Type 0 where
  pub commands : List Command
  pub written : bytes ≡ flat_map bytes_of commands
  pub are_read : read_commands bytes ≡ Some commands
  pub safe : All IsSafe commands
  pub apart : AreApart Symbol commands
  pub few : All (MovesTo (HasChanged width last next)) commands
  pub fits : (columns : ℕ → ℕ) → ((c : ℕ) → columns c ≤ char_columns c) → (at : ℕ)
      → NoneWraps columns width at commands
  pub places : KeepsPlaces width last next commands
  pub shows : (t : Terminal) → IsOfSize t width (length next)
      → (HasSize width (length next) last → t.rows ≡ map known_spots (sent_picture last))
      → Leads commands t (map known_spots (sent_picture next))
