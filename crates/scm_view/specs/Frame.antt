-- A frame: the rows of a screen of `w` columns and `h` rows, the owner of each place, the rows of each key, and the extent. It is defined
-- twice: by drawing a view, and, inline, by the document without drawing.
use Rattle.std.specs.Prelude.{ℕ, nat_le, pos, Bool, false, ◌&&◌, List, replicate, Option, option_map}
use Rattle.scm_types.specs.declared.keys.SelectionKey.{SelectionKey}
use Rattle.scm_render.specs.Canvas.{Row, paint_rows}
use Rattle.scm_render.specs.Picture.{Picture, part}
use Rattle.scm_render.specs.Hits.{box_of, latest}
use Rattle.scm_view.specs.declared.app_view.AppView.{AppView}
use Rattle.scm_document.specs.declared.commit_view.CommitViewMode.{CommitViewMode}
use Rattle.scm_document.specs.declared.commit_view.CommitViewMode.TheVariants.{Inline, Adjacent}
use Rattle.scm_widgets.specs.declared.ids.ComponentId.{ComponentId}
use Rattle.scm_widgets.specs.declared.ids.ComponentId.TheVariants as ids
use Rattle.scm_view.specs.AppView.{app_picture}
use Rattle.scm_widgets.specs.Blanks.{blank_row}
use Rattle.scm_widgets.specs.Clicks.{is_clickable}
use Rattle.scm_widgets.specs.SameIds.{same_id}
use Rattle.scm_widgets.specs.Screens.{screen, sight}
use Rattle.scm_view.specs.ViewState.{ViewState}
use Rattle.scm_view.specs.Window.{window, owner, span, extent, rows_of_box, height_of_box}

-- A frame.
pub record Frame : Type 0 where
  -- The rows of the screen.
  pub rows : List Row
  -- The owner of a row of the document and a column of the screen, if any.
  pub owner : ℕ → ℕ → Option ComponentId
  -- The first row of a key in the document and its number of rows, if the key is drawn.
  pub span : SelectionKey → Option (ℕ × ℕ)
  -- The number of rows that all that is drawn spans.
  pub extent : ℕ

-- The picture of view `a` on a screen of `w` columns and `h` rows whose first row shows row `s` of the document.
abbrev pub picture_of : ℕ → ℕ → ℕ → AppView → Picture ComponentId
picture_of w h s a = app_picture a (sight w h s) (pos 0) (pos 0)

-- The frame by a picture: the rows that it leaves on a cleared screen, the latest clickable box at each place, the rows of boxes.
unfoldable pub frame_of_picture : ℕ → ℕ → ℕ → Picture ComponentId → Frame
frame_of_picture w h s m = record {
  rows = paint_rows (screen w h s) m.puts (pos s) (replicate h (blank_row w));
  owner = λ y x. latest same_id is_clickable (part ids.App m).boxes (pos y) (pos x);
  span = λ key. option_map rows_of_box (box_of same_id (ids.SelectableItem key) (part ids.App m).boxes);
  extent = height_of_box (box_of same_id ids.App (part ids.App m).boxes);
}

-- The frame of a view.
abbrev pub frame_of_view : ℕ → ℕ → ℕ → AppView → Frame
frame_of_view w h s a = frame_of_picture w h s (picture_of w h s a)

-- The frame by the document: the window, the owners, the rows of keys and the extent.
abbrev pub frame_of_document : ℕ → ℕ → ℕ → ViewState → Frame
frame_of_document w h s shown = record {
  rows = window w h s shown;
  owner = owner w h s shown;
  span = span shown;
  extent = extent w h s shown;
}

-- Whether a frame is plain: inline, on a screen of at least ten columns and two rows.
abbrev pub is_plain : ℕ → ℕ → CommitViewMode → Bool
is_plain w h Inline = nat_le 10 w && nat_le 2 h
is_plain w h Adjacent = false
