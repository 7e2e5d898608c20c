-- The picture of a live session: its screen, and the style of each place.
use Rattle.std.specs.Prelude.{ℕ, ◌+◌, List}
use Rattle.scm_cells.specs.Counts.{no_counts}
use Rattle.scm_cells.specs.Screen.{Screen}
use Rattle.scm_cells.specs.declared.style.Style.{Style}
use Rattle.scm_terminal.specs.StyledCell.{StyledCell, picture}
use Rattle.scm_view_state.specs.Styles.{style_of}
use Rattle.scm_view.specs.ViewState.{ViewState}
use Rattle.scm_record.specs.Frames.{Scene, columns_of, scene_of}
use Rattle.scm_record.specs.Headline.{owner_at, window_of}
use Rattle.scm_record.specs.Live.{Live}
use Rattle.scm_record.specs.FrameQueries.{hit}

-- the style at `row` and `column` of a screen, counted from 0, that shows `scene` of `shown`, scrolled to row `scroll` of the document:
-- that of the component that a click there hits
abbrev pub style_in : Scene → ViewState → ℕ → ℕ → ℕ → Style
style_in scene shown scroll row column = style_of shown row (hit scene scroll row column)

-- the style at `row` and `column` of the screen of a session
abbrev pub style_at : Live → ℕ → ℕ → Style
style_at l row column = style_in (scene_of l.kind l.session) l.session.shown l.session.scroll row column

-- the screen as a grid
abbrev pub screen_of : Live → Screen
screen_of l = record {
  width = columns_of l.kind;
  rows = (scene_of l.kind l.session).frame.rows;
  counts = no_counts;
}

-- the screen in its styles
abbrev pub picture_of : Live → List (List StyledCell)
picture_of l = picture (style_at l) (screen_of l)

-- ---- inline

-- the style at `row` and `column` of the screen: that of the owner of the place in the document
abbrev pub window_style_at : Live → ℕ → ℕ → Style
window_style_at l row column =
    style_of l.session.shown row (owner_at l.kind l.session (l.session.scroll + row) column)

-- the window in its styles
abbrev pub window_picture_of : Live → List (List StyledCell)
window_picture_of l = picture (window_style_at l) (record {
  width = columns_of l.kind;
  rows = window_of l.kind l.session;
  counts = no_counts;
})
