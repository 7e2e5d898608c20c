-- The status row of a view, as a program reads it: symbols, and the text of a screen with it.
use Rattle.std.specs.Prelude.{◌≡◌, ℕ, ◌+◌, ◌==◌, List, [], ◌∷◌, ◌++◌, slice_index_or, unwrap_or, if◌then◌else◌}
use Rattle.scm_cells.specs.Cell.{Cell}
use Rattle.scm_cells.specs.Screen.{Screen, view_of}
use Rattle.scm_cells.specs.Symbols.{symbol_at, symbol_in}
use Rattle.scm_record.specs.Frames.{scene_of}
use Rattle.scm_record.specs.Live.{Live}
use Rattle.scm_front_paint.specs.Below.{rows_shown, width_of}
use Rattle.scm_front_paint.specs.Pane.{offset}
use Rattle.scm_front_paint.specs.Seen.{Seen}
use Rattle.scm_front_paint.specs.Status.{left_of, right_of, status_screen}

-- the status row, on a screen without rows above it; below the session's rows it is the same (`status-row-alone` of StatusRowLemmas)
abbrev pub status_row : Seen → List ℕ → List Cell
status_row v accept =
    slice_index_or
    (status_screen (width_of v) 0 (left_of v.front) (right_of v.front (width_of v) (left_of v.front) (offset v.pane v.front.beneath) accept)).rows 0 []

-- a screen that has this row alone
pub record HasStatusRow (v : Seen) (accept : List ℕ) (screen : Screen) : Type 0 where
  pub rows : screen.rows ≡ status_row v accept ∷ []

-- the rows of the session beneath
abbrev pub rows_beneath : Live → List (List Cell)
rows_beneath l = (scene_of l.kind l.session).frame.rows

-- The symbol that begins at `row`, `column` of the terminal: on the row below the session's rows that of the status row.
abbrev pub symbol_of_view : Seen → List ℕ → ℕ → ℕ → List ℕ
symbol_of_view v accept row column =
    if row == rows_shown v.front.beneath then unwrap_or (symbol_in (status_row v accept) column) []
    else unwrap_or (symbol_at (rows_beneath v.front.beneath) row (offset v.pane v.front.beneath + column)) []

-- the text of the session's whole screen, and of the status row below it
abbrev pub text_of_view : Seen → List ℕ → List ℕ
text_of_view v accept = view_of (rows_beneath v.front.beneath) ++ view_of (status_row v accept ∷ [])
