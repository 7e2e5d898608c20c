-- The screen of a session as cells, as `gabro_cells` tells it.
use Rattle.std.specs.Prelude.{◌≡◌, ℕ, List, length, false, string_bytes, Option, Some, None, Result, Ok, Err}
use Rattle.scm_record.specs.Frames.{columns_of, scene_of}
use Rattle.scm_record.specs.Live.{Live}
use Rattle.scm_record.specs.Painted.{picture_of}
use Rattle.scm_shown_cells.specs.Cells.{AreOf, cells_over}
use Rattle.scm_shown_cells.specs.declared.cell.Cell.{Cell}
use Rattle.scm_shown_cells.specs.declared.room.ScreenInfo.{ScreenInfo}
use Rattle.scm_shown_cells.specs.declared.room.ShownScreen.{ShownScreen}
use Rattle.scm_front_paint.specs.ViewCells.{HasCells}
use Rattle.scm_open_session.specs.declared.open_session.OpenSession.{OpenSession}
use Rattle.scm_open_session.specs.declared.open_session.Stage.{Stage}
use Rattle.scm_open_session.specs.declared.open_session.Stage.TheVariants.{Waiting}
use Rattle.scm_open_session.specs.declared.painters.Painters.{Painters}
use Rattle.scm_open_session.specs.declared.running.Running.{Running}
use Rattle.scm_open_session.specs.declared.running.Running.TheVariants as running
use Rattle.scm_open_session.specs.Stages.{is_waiting}
use Rattle.scm_c_values.specs.Buffers.{over}

-- The cells of a session without a layer: those of the picture that `gabro_paint` brings a terminal to.
pub record PlainCells (l : Live) (screen : ShownScreen) : Type 0 where
  pub cells : AreOf (picture_of l) screen.list
  pub columns : screen.columns ≡ columns_of l.kind
  pub rows : screen.rows ≡ length (scene_of l.kind l.session).frame.rows

-- The cells of a session that waits for an event. With a layer they are those of what it paints, with its status row.
abbrev pub RunningCells : Running → Painters → ShownScreen → Type 0
RunningCells (running.Plain l) painters screen = PlainCells l screen
RunningCells (running.Layered v) painters screen = HasCells painters.layered v painters.accept screen

-- The cells at a stage, if it waits for an event, or the code of the failure: an allocation failed, or the stage waits for no event.
pub data StageCells : Stage → Painters → Result ShownScreen ℕ → Type 0 where
  shown : {s : Running} {painters : Painters} {screen : ShownScreen} → RunningCells s painters screen → StageCells (Waiting s) painters (Ok screen)
  refused : {s : Running} {painters : Painters} → StageCells (Waiting s) painters (Err 8)
  not_due : {stage : Stage} {painters : Painters} → is_waiting stage ≡ false → StageCells stage painters (Err 2)

-- The cells of a session, or the code of the failure.
pub data SessionCells : Option OpenSession → Result ShownScreen ℕ → Type 0 where
  closed : SessionCells None (Err 1)
  of_stage : {inner : OpenSession} {result : Result ShownScreen ℕ} → StageCells inner.stage inner.painter result → SessionCells (Some inner) result

-- The cells and the text of their symbols are written over the buffers, and the sizes of all three are told.
pub record TellsScreen (screen : ShownScreen) (cells cells_new : List Cell) (out out_new : List ℕ) (told : ScreenInfo) : Type 0 where
  pub cells_written : cells_new ≡ cells_over screen.list.cells.items cells
  pub text_written : out_new ≡ over (string_bytes screen.list.text) out
  pub columns_told : told.columns ≡ screen.columns
  pub rows_told : told.rows ≡ screen.rows
  pub length_told : told.len ≡ length (string_bytes screen.list.text)

-- `gabro_cells` on a session: the buffers, what it tells, and the code. A call that fails writes nothing.
pub data TellsCells (inner : Option OpenSession) : List Cell → List Cell → List ℕ → List ℕ → ScreenInfo → ScreenInfo → ℕ → Type 0 where
  told : {screen : ShownScreen} {cells cells_new : List Cell} {out out_new : List ℕ} {info info_new : ScreenInfo}
      → SessionCells inner (Ok screen) → TellsScreen screen cells cells_new out out_new info_new
      → TellsCells inner cells cells_new out out_new info info_new 0
  untold : {cells : List Cell} {out : List ℕ} {info : ScreenInfo} {code : ℕ} → SessionCells inner (Err code)
      → TellsCells inner cells cells out out info info code
