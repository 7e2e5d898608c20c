-- Synchronized updates for the terminal.
use Rattle.std.specs.Prelude.{◌≡◌, ℕ, List, [], ◌∷◌, ◌++◌, codes}
use Rattle.scm_terminal.specs.StyledCell.{StyledCell}
use Rattle.scm_terminal.specs.Promise.{Paints}
use Rattle.scm_terminal.specs.Style.{style_bytes}
use Rattle.scm_view_state.specs.Styles.{plain}
use Rattle.scm_record.specs.Frames.{columns_of}
use Rattle.scm_record.specs.Headline.{IsInline}
use Rattle.scm_record.specs.Live.{Live}
use Rattle.scm_record.specs.Painted.{picture_of, window_picture_of}

-- The bytes as one synchronized update, between `ESC [ ? 2026 h` and `ESC [ ? 2026 l`. No style is set at its end. Without a byte there is
-- nothing to update.
abbrev pub as_update : List ℕ → List ℕ
as_update [] = []
as_update (byte ∷ bytes) = (27 ∷ codes "[?2026h") ++ ((byte ∷ bytes) ++ (style_bytes plain ++ (27 ∷ codes "[?2026l")))

-- On a terminal of the screen's size that shows the rows `last`, the update shows the session with its styles. If `last` is
-- empty, the terminal may show anything.
pub record Shows (l : Live) (last : List (List StyledCell)) (update : List ℕ) : Type 0 where
  -- the bytes inside the update
  pub bytes : List ℕ
  -- they make the terminal show the picture
  pub paints : Paints (columns_of l.kind) last (picture_of l) bytes
  -- the update is these bytes, synchronized
  pub is : update ≡ as_update bytes
  -- with one commit in view, the picture is that of the window
  pub window : IsInline l.kind l.session → picture_of l ≡ window_picture_of l
