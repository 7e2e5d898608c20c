-- The screen of a session as cells, and the buffers that it is written to.
use Rattle.std.proofs.Common.{◌≡◌, ℕ, true, false, List, [], length, Option, Some, None, Result, Ok, Err, OnOk, ap, ◌∙◌, subst, string_bytes}
use Rattle.std.specs.Result.{is_ok}
use Rattle.scm_cells.specs.Screen.{Screen}
use Rattle.scm_terminal.specs.StyledCell.{StyledCell, picture}
use Rattle.scm_record.specs.Frames.{columns_of, scene_of}
use Rattle.scm_record.specs.Live.{Live}
use Rattle.scm_record.specs.Painted.{picture_of, screen_of, style_at}
use Rattle.scm_record.proofs.PaintedLemmas.{picture-of-grid}
use Rattle.scm_shown_cells.specs.Cells.{AddsRows}
use Rattle.scm_shown_cells.specs.declared.cell.Cell.{Cell}
use Rattle.scm_shown_cells.specs.declared.cell_list.CellList.{CellList}
use Rattle.scm_shown_cells.specs.declared.room.ScreenInfo.{ScreenInfo}
use Rattle.scm_shown_cells.specs.declared.room.ShownScreen.{ShownScreen}
use Rattle.scm_shown_cells.proofs.CellLemmas.{are-of}
use Rattle.scm_open_session.specs.declared.open_session.OpenSession.{OpenSession}
use Rattle.scm_open_session.specs.declared.open_session.Stage.{Stage}
use Rattle.scm_open_session.specs.declared.open_session.Stage.TheVariants.{Waiting}
use Rattle.scm_open_session.specs.declared.painters.Painters.{Painters}
use Rattle.scm_open_session.specs.declared.running.Running.{Running}
use Rattle.scm_open_session.specs.Cells.{PlainCells, RunningCells, SessionCells, StageCells, TellsCells, TellsScreen}

-- what a call does if it is done, once it is done
pub when-done : {T E P : Type 0} (r : Result T E) → true ≡ is_ok r → OnOk r P → P
when-done (Ok value) is done = done
when-done (Err error) is done = absurd (no is) where
  no : true ≡ false → ⊥
  no wrong = cc

-- what the rows of a grid add to a list without cells are the cells of a session, if the grid is its screen
pub plain-screen : (l : Live) (grid : Screen) (old : CellList) (screen : ShownScreen) → grid.width ≡ columns_of l.kind → grid.rows ≡ (scene_of l.kind l.session).frame.rows
    → old.cells.items ≡ [] → string_bytes old.text ≡ [] → AddsRows (picture (style_at l) grid) old screen.list
    → screen.columns ≡ grid.width → screen.rows ≡ length grid.rows → PlainCells l screen
plain-screen l grid old screen width rows none empty adds wide high = record {
  cells =
      are-of (picture_of l) old screen.list none empty
      (subst (λ (list : List (List StyledCell)). AddsRows list old screen.list) (picture-of-grid (style_at l) grid (columns_of l.kind) (screen_of l).rows width rows) adds);
  columns = wide ∙ width;
  rows = high ∙ ap length rows;
}

-- stages

pub shown-at : (stage : Stage) (s : Running) (painters : Painters) (screen : ShownScreen) → stage ≡ Waiting s → RunningCells s painters screen → StageCells stage painters (Ok screen)
shown-at stage s painters screen e are_cells = rw e (StageCells.shown are_cells)

pub refused-at : (stage : Stage) (s : Running) (painters : Painters) → stage ≡ Waiting s → StageCells stage painters (Err 8)
refused-at stage s painters e = rw e StageCells.refused

-- sessions

pub cells-open : (session : Option OpenSession) (h inner : OpenSession) (r : Result ShownScreen ℕ) → session ≡ Some h → inner ≡ h → StageCells inner.stage inner.painter r → SessionCells session r
cells-open session h inner r e f at_stage = rw e (SessionCells.of_stage (subst (λ (x : OpenSession). StageCells x.stage x.painter r) f at_stage))

pub cells-closed : (session : Option OpenSession) → session ≡ None → SessionCells session (Err 1)
cells-closed session e = rw e SessionCells.closed

-- buffers

pub cells-told : (session : Option OpenSession) (r : Result ShownScreen ℕ) (screen : ShownScreen) (cells cells_new : List Cell) (out out_new : List ℕ) (info info_new : ScreenInfo)
    → r ≡ Ok screen → SessionCells session r → TellsScreen screen cells cells_new out out_new info_new → TellsCells session cells cells_new out out_new info info_new 0
cells-told session r screen cells cells_new out out_new info info_new is are_cells tells =
    TellsCells.told (subst (λ (x : Result ShownScreen ℕ). SessionCells session x) is are_cells) tells

pub cells-untold : (session : Option OpenSession) (r : Result ShownScreen ℕ) (code : ℕ) (cells : List Cell) (out : List ℕ) (info : ScreenInfo)
    → r ≡ Err code → SessionCells session r → TellsCells session cells cells out out info info code
cells-untold session r code cells out info is fails = TellsCells.untold (subst (λ (x : Result ShownScreen ℕ). SessionCells session x) is fails)
