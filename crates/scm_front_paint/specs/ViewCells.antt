-- A view as cells: what a paint shows of it.
use Rattle.std.specs.Prelude.{◌≡◌, ℕ, ◌+◌, List, [], ◌∷◌, ◌++◌}
use Rattle.scm_terminal.specs.StyledCell.{StyledCell, styled_row}
use Rattle.scm_shown_cells.specs.Cells.{AreOf}
use Rattle.scm_shown_cells.specs.declared.room.ShownScreen.{ShownScreen}
use Rattle.scm_front_paint.specs.declared.painter.FrontPainter.{FrontPainter}
use Rattle.scm_front_paint.specs.declared.labels.Label.{Label}
use Rattle.scm_front_paint.specs.declared.themes.Theme.{Theme}
use Rattle.scm_front_paint.specs.declared.columns.Columns.{Columns}
use Rattle.scm_front_paint.specs.declared.status.LeftText.{LeftText}
use Rattle.scm_front_paint.specs.Below.{rows_shown, session_picture, width_of}
use Rattle.scm_front_paint.specs.Pane.{offset}
use Rattle.scm_front_paint.specs.Seen.{Seen}
use Rattle.scm_front_paint.specs.Status.{left_of, right_of, status_screen, status_style}
use Rattle.scm_front_paint.specs.Syntax.{Lines}
use Rattle.scm_front_paint.specs.Words.{AreWords}

-- the status row: the last row of its picture
abbrev pub status_cells : ℕ → ℕ → LeftText → List ℕ → List StyledCell
status_cells width height l right = styled_row (status_style height) (status_screen width height l right) height

-- the rows of a view, as a paint shows them: those of its session, and the status row below them
abbrev pub rows_of_view : Theme → List (List Columns) → Lines → List Label → Seen → List ℕ → List (List StyledCell)
rows_of_view theme words lines labels v accept =
    session_picture theme words lines labels v
    ++ status_cells (width_of v) (rows_shown v.front.beneath) (left_of v.front) (right_of v.front (width_of v) (left_of v.front) (offset v.pane v.front.beneath) accept) ∷ []

-- the cells of a view, in the theme and with the labels of a painter
pub record HasCells (painter : FrontPainter) (v : Seen) (accept : List ℕ) (screen : ShownScreen) : Type 0 where
  -- the columns that are set off
  pub words : List (List Columns)
  pub are_words : AreWords v.front.beneath words
  pub cells : AreOf (rows_of_view painter.theme words painter.syntax painter.labels v accept) screen.list
  pub columns : screen.columns ≡ width_of v
  pub rows : screen.rows ≡ rows_shown v.front.beneath + 1
