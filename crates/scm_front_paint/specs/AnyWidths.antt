-- Painting a view on a terminal of any widths, which may show a symbol of several bytes in other columns than ours.
use Rattle.std.specs.Prelude.{◌≡◌, ℕ, ◌+◌, ◌<◌, List, [], slice_index_or, Some, true}
use Rattle.scm_terminal.specs.AnyTerminal.{Display, HasPlaces, IsAsLarge, Might, ShowsRow}
use Rattle.scm_terminal.specs.Terminal.{Command}
use Rattle.scm_front_paint.specs.Below.{AreWhole, Pictures, no_pictures}

-- each symbol of one byte of both pictures stands at its place: the session on the first `height` rows, and the status row below them
pub record PlacesBoth (height : ℕ) (p : Pictures) (t : Display) : Type 0 where
  pub session : (row : ℕ) → row < height → ShowsRow t p.session row
  pub status : ShowsRow t p.status height

-- the terminal before a paint: nothing is known of what it shows, or both pictures have their places on it
pub data PlacedBefore (width height : ℕ) (known : Pictures) (t : Display) : Type 0 where
  nothing_known : known ≡ no_pictures → PlacedBefore width height known t
  both_placed : AreWhole width height known → PlacesBoth height known t → PlacedBefore width height known t

-- `commands` paint the pictures `new`, after the pictures `known`, on every terminal of any widths that has room for them:
-- - `keeps`, `keeps_status`: each row that did not change stays as it was;
-- - `below`: so does each row below the status row;
-- - `shows`: each symbol of one byte stands at its place afterwards;
-- - `sized`: the size of the terminal is unchanged, so nothing scrolls;
-- - `wraps`: symbols wrap afterwards if they wrapped before.
pub record KeepsBoth (width height : ℕ) (known new : Pictures) (commands : List Command) : Type 0 where
  pub keeps : (t u : Display) → HasPlaces t width (height + 1) → Might commands t u → AreWhole width height known
      → (row : ℕ) → row < height → slice_index_or known.session row [] ≡ slice_index_or new.session row []
      → slice_index_or u.rows row [] ≡ slice_index_or t.rows row []
  pub keeps_status : (t u : Display) → HasPlaces t width (height + 1) → Might commands t u → AreWhole width height known
      → slice_index_or known.status height [] ≡ slice_index_or new.status height []
      → slice_index_or u.rows height [] ≡ slice_index_or t.rows height []
  pub below : (t u : Display) → HasPlaces t width (height + 1) → Might commands t u
      → (row : ℕ) → height < row → slice_index_or u.rows row [] ≡ slice_index_or t.rows row []
  pub shows : (t u : Display) → HasPlaces t width (height + 1) → Might commands t u
      → PlacedBefore width height known t → PlacesBoth height new u
  pub sized : (t u : Display) → HasPlaces t width (height + 1) → Might commands t u → IsAsLarge t u
  pub wraps : (t u : Display) → HasPlaces t width (height + 1) → Might commands t u
      → t.wraps ≡ Some true → u.wraps ≡ Some true
