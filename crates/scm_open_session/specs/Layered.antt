-- A session with a layer over it: what calls do to its view.
use Rattle.std.specs.Prelude.{◌≡◌, ℕ, ◌==◌, List, Option, Some, None, if◌then◌else◌}
use Rattle.scm_errors.specs.declared.error.RecordError.{RecordError}
use Rattle.scm_errors.specs.declared.error.RecordError.TheVariants.{OutOfMemory}
use Rattle.scm_types.specs.declared.keys.SelectionKey.{SelectionKey}
use Rattle.scm_input.specs.declared.events.Event.{Event}
use Rattle.scm_input.specs.declared.inputs.TerminalKind.{TerminalKind}
use Rattle.scm_input.specs.declared.inputs.TerminalKind.TheVariants.{Testing}
use Rattle.scm_record.specs.LiveCalls.{BatchLeads, Call, EventLeads, Path}
use Rattle.scm_record.specs.declared.live.Turn.TheVariants as turns
use Rattle.scm_front.specs.declared.layer.FrontTurn.{FrontTurn}
use Rattle.scm_front.specs.declared.starting.Folds.{Folds}
use Rattle.scm_front.specs.declared.starting.Folds.TheVariants as folds
use Rattle.scm_front.specs.Fronts.{IsGiven, beneath_of, front_of}
use Rattle.scm_front.specs.Starting.{Starts}
use Rattle.scm_front_paint.specs.declared.themes.Theme.{Theme}
use Rattle.scm_front_paint.specs.declared.themes.Theme.TheVariants as themes
use Rattle.scm_front_paint.specs.declared.view.ViewTurn.{ViewTurn}
use Rattle.scm_front_paint.specs.Pane.{with_size}
use Rattle.scm_front_paint.specs.Seen.{Seen}
use Rattle.scm_front_paint.specs.Views.{IsFitted, IsShown}

-- ---- events

-- An event of a program is handed to the session beneath, and what comes of it is shown on the terminal. If marks change, nothing is left to undo.
pub record ViewPresses (v : Seen) (event : Event) (turn : ViewTurn) : Type 0 where
  pub middle : FrontTurn
  pub leads : EventLeads v.front.beneath event (beneath_of middle)
  pub given : IsGiven v.front middle
  pub shown : IsShown v.pane middle turn

-- Events of a program are handed to the session beneath as one batch, and what comes of them is shown on the terminal. If marks change, nothing is
-- left to undo.
pub record ViewPressesAll (v : Seen) (events : List Event) (turn : ViewTurn) : Type 0 where
  pub middle : FrontTurn
  pub leads : BatchLeads v.front.beneath events (beneath_of middle)
  pub given : IsGiven v.front middle
  pub shown : IsShown v.pane middle turn

-- What `folds` says and the selection `first` are made by calls of the session beneath, and what comes of them is shown on the terminal. Nothing
-- else changes: the session has the same state, and the layer keeps what it kept.
pub record ViewSets (folds : Folds) (first : SelectionKey) (v : Seen) (turn : ViewTurn) : Type 0 where
  pub middle : FrontTurn
  pub calls : List Call
  pub path : Path (turns.Waiting v.front.beneath) calls (beneath_of middle)
  pub starts : Starts folds v.front.beneath first (beneath_of middle)
  pub kept : middle ≡ front_of (beneath_of middle) v.front.query v.front.kept
  pub shown : IsShown v.pane middle turn

-- An allocation failed, or the session beneath fails.
pub data OrRefused (Fails : RecordError → Type 0) (error : RecordError) : Type 0 where
  refused : error ≡ OutOfMemory → OrRefused Fails error
  failed : Fails error → OrRefused Fails error

-- The view is shown on a terminal of this size, status row included.
abbrev pub ViewResizes : TerminalKind → Seen → Seen → Type 0
ViewResizes (Testing width height) v next =
    (IsFitted next.pane v.front next.front) × (next.pane ≡ with_size v.pane width height)

-- ---- numbers

-- The theme with a number.
abbrev pub theme_of : ℕ → Option Theme
theme_of code =
    if code == 0 then Some themes.Dark
    else if code == 1 then Some themes.Light
    else if code == 2 then Some themes.Sixteen
    else if code == 3 then Some themes.NoColours
    else None

-- The folds with a number.
abbrev pub folds_of : ℕ → Option Folds
folds_of code =
    if code == 0 then Some folds.AsIs
    else if code == 1 then Some folds.Folded
    else if code == 2 then Some folds.Open
    else if code == 3 then Some folds.Fitting
    else None
