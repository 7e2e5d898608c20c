-- Painting a view: the session's rows, and the status row below them.
use Rattle.std.specs.Prelude.{◌≡◌, ℕ, ◌+◌, ◌-◌, ◌<◌, nat_eq, Bool, false, ◌&&◌, List, [], ◌++◌, length, slice_index_or, Option, Some, None, if◌then◌else◌}
use Rattle.std.specs.List.{All}
use Rattle.scm_terminal.specs.Promise.{Paints, MovesTo, known_spots}
use Rattle.scm_terminal.specs.Sent.{sent_row}
use Rattle.scm_types.specs.declared.keys.SelectionKey.{SelectionKey}
use Rattle.scm_cells.specs.declared.style.Style.{Style}
use Rattle.scm_terminal.specs.StyledCell.{StyledCell, HasSize}
use Rattle.scm_terminal.specs.Terminal.{Terminal, IsOfSize, Command, after_all}
use Rattle.scm_record.specs.Live.{Live}
use Rattle.scm_record.specs.Frames.{columns_of, scene_of}
use Rattle.scm_record.specs.Painted.{style_at}
use Rattle.scm_front_paint.specs.declared.painter.FrontPainter.{FrontPainter}
use Rattle.scm_front_paint.specs.declared.labels.Label.{Label}
use Rattle.scm_front_paint.specs.declared.themes.Theme.{Theme}
use Rattle.scm_front_paint.specs.declared.columns.Columns.{Columns}
use Rattle.scm_front_paint.specs.Blank.{PaintsLast, blank_cells}
use Rattle.scm_front_paint.specs.Headers.{labelled}
use Rattle.scm_front_paint.specs.Pane.{offset}
use Rattle.scm_front_paint.specs.Range.{has_row, underlined_if}
use Rattle.scm_front_paint.specs.Seen.{Seen}
use Rattle.scm_front_paint.specs.Sideways.{sideways_picture}
use Rattle.scm_front_paint.specs.Syntax.{Lines, with_runs}
use Rattle.scm_front_paint.specs.SyntaxRows.{runs_on}
use Rattle.scm_front_paint.specs.Status.{left_of, right_of, status_picture}
use Rattle.scm_front_paint.specs.Themes.{themed}
use Rattle.scm_front_paint.specs.Words.{AreWords, with_words}

-- the pictures that a painter of views has: of the session, and of the status row with blanks above it
pub record Pictures : Type 0 where
  pub session : List (List StyledCell)
  pub status : List (List StyledCell)

-- those of a painter that does not know what the terminal shows
abbrev pub no_pictures : Pictures
no_pictures = record { session = []; status = [] }

-- those of the code's painter
abbrev pub pictures_of : FrontPainter → Pictures
pictures_of painter = record { session = painter.session.painter; status = painter.status }

-- the number of rows of the session's screen
abbrev pub rows_shown : Live → ℕ
rows_shown l = length (scene_of l.kind l.session).frame.rows

-- the width of the terminal: the columns of the session's screen but those to its left
abbrev pub width_of : Seen → ℕ
width_of v = columns_of v.front.beneath.kind - offset v.pane v.front.beneath

-- the style of a place of the window, where `words` are the columns that are set off on each row, `lines` have spans, and a range is begun at
-- `anchor`: words, the range and the theme lie over spans
abbrev pub shown_style : Theme → SelectionKey → List (List Columns) → Lines → Live → ℕ → ℕ → Style
shown_style theme anchor words lines l row column =
    themed theme (underlined_if (has_row l anchor row) (with_words (slice_index_or words row []) column (with_runs (runs_on lines l row) column (style_at l row column))))

-- what the terminal shows of the session: the columns of its screen from the offset on, with labels in its headers
abbrev pub session_picture : Theme → List (List Columns) → Lines → List Label → Seen → List (List StyledCell)
session_picture theme words lines labels v =
    sideways_picture (offset v.pane v.front.beneath) (shown_style theme v.front.kept.anchor words lines v.front.beneath) (labelled labels v.front.beneath)

-- the pictures of a view, whose status row says what accepting does by the text `accept`
abbrev pub view_pictures : Theme → List (List Columns) → Lines → List Label → Seen → List ℕ → Pictures
view_pictures theme words lines labels v accept = record {
  session = session_picture theme words lines labels v;
  status =
      status_picture (width_of v) (rows_shown v.front.beneath) (left_of v.front) (right_of v.front (width_of v) (left_of v.front) (offset v.pane v.front.beneath) accept);
}

-- The bytes paint the pictures `new`, where `known` are those painted last: first the status row, and then the session.
pub record PaintsBoth (width : ℕ) (known new : Pictures) (bytes : List ℕ) : Type 0 where
  pub first : List ℕ
  pub second : List ℕ
  pub written : bytes ≡ first ++ second
  pub status : PaintsLast width known.status new.status first
  pub session : Paints width known.session new.session second

-- the commands of both
abbrev pub commands_of : {width : ℕ} {known new : Pictures} {bytes : List ℕ} → PaintsBoth width known new bytes → List Command
commands_of p = p.status.commands ++ p.session.commands

-- whether a size is that of `width` columns and `height` rows
abbrev pub is_of : Option (ℕ × ℕ) → ℕ → ℕ → Bool
is_of None width height = false
is_of (Some size) width height = nat_eq size.0 width && nat_eq size.1 height

-- what the code's painter takes as known on a screen of `width` columns and `height` rows: its last pictures, if they have that size
abbrev pub known_to : FrontPainter → ℕ → ℕ → Pictures
known_to painter width height = if is_of painter.size width height then pictures_of painter else no_pictures

-- a paint of a view: the painter `old` becomes `new`, which has the pictures of the view, and the bytes paint them
pub record PaintsView (old new : FrontPainter) (v : Seen) (accept bytes : List ℕ) : Type 0 where
  -- the columns that are set off
  pub words : List (List Columns)
  pub are_words : AreWords v.front.beneath words
  pub paints :
      PaintsBoth (width_of v) (known_to old (width_of v) (rows_shown v.front.beneath)) (view_pictures old.theme words old.syntax old.labels v accept) bytes
  pub painted : pictures_of new ≡ view_pictures old.theme words old.syntax old.labels v accept
  pub sized : new.size ≡ Some (width_of v, rows_shown v.front.beneath)
  pub same : new.theme ≡ old.theme
  pub same_labels : new.labels ≡ old.labels
  pub same_syntax : new.syntax ≡ old.syntax

-- ---- what a terminal shows

-- pictures of `height` rows and a status row below
pub record AreWhole (width height : ℕ) (p : Pictures) : Type 0 where
  pub session : HasSize width height p.session
  pub status : HasSize width (height + 1) p.status
  pub blank : (k : ℕ) → k < height → slice_index_or p.status k [] ≡ blank_cells width

-- the terminal shows both pictures: the session on its first `height` rows, and on the row below the status row
pub record ShowsBoth (width height : ℕ) (p : Pictures) (t : Terminal) : Type 0 where
  pub size : IsOfSize t width (height + 1)
  pub session : (k : ℕ) → k < height → slice_index_or t.rows k [] ≡ known_spots (sent_row (slice_index_or p.session k []))
  pub status : slice_index_or t.rows height [] ≡ known_spots (sent_row (slice_index_or p.status height []))

-- the terminal before a paint: nothing is known of it but its size, or it shows both pictures
pub data Before (width height : ℕ) (known : Pictures) (t : Terminal) : Type 0 where
  anything : known ≡ no_pictures → IsOfSize t width (height + 1) → Before width height known t
  painted : AreWhole width height known → ShowsBoth width height known t → Before width height known t

-- the commands lead the terminal to one that shows both pictures
pub record LeadsToBoth (width height : ℕ) (commands : List Command) (t : Terminal) (p : Pictures) : Type 0 where
  pub end : Terminal
  pub runs : after_all commands t ≡ Some end
  pub shows : ShowsBoth width height p end

-- each command that moves the cursor stays on the status row, or above it
pub record StayApart {width : ℕ} {known new : Pictures} {bytes : List ℕ} (height : ℕ) (p : PaintsBoth width known new bytes) : Type 0 where
  pub status : All (MovesTo (λ (row : ℕ). row ≡ height)) p.status.commands
  pub session : All (MovesTo (λ (row : ℕ). row < height)) p.session.commands
