-- A session from its start on: the calls of a program, one after another, and what they come to beneath, with or without a layer.
use Rattle.std.specs.Prelude.{◌≡◌, ℕ, List, Option, Some, None}
use Rattle.scm_errors.specs.declared.error.RecordError.{RecordError}
use Rattle.scm_types.specs.declared.keys.SelectionKey.{SelectionKey}
use Rattle.scm_types.specs.declared.state.RecordState.{RecordState}
use Rattle.scm_input.specs.declared.events.Event.{Event}
use Rattle.scm_input.specs.declared.inputs.TerminalKind.{TerminalKind}
use Rattle.scm_terminal.specs.declared.decoder.Decoder.{Decoder}
use Rattle.scm_record.specs.Session.{start}
use Rattle.scm_record.specs.LiveCalls.{Call, Path}
use Rattle.scm_record.specs.declared.live.Turn.{Turn}
use Rattle.scm_record.specs.declared.live.Turn.TheVariants as turns
use Rattle.scm_front.specs.declared.actions.OwnKey.{OwnKey}
use Rattle.scm_front.specs.declared.starting.Folds.{Folds}
use Rattle.scm_open_session.specs.declared.open_session.Stage.{Stage}
use Rattle.scm_open_session.specs.declared.open_session.Stage.TheVariants.{Building, Waiting, Editing, Accepted, Ended}
use Rattle.scm_open_session.specs.Batches.{PressesAll}
use Rattle.scm_open_session.specs.LayerCalls.{SetsStart}
use Rattle.scm_open_session.specs.OwnKeys.{SetsKeys}
use Rattle.scm_open_session.specs.Running.{edit_of, live_of}
use Rattle.scm_open_session.specs.Selecting.{Selects}
use Rattle.scm_open_session.specs.Stages.{Idles, Presses, Resizes, Says, Types}

-- What the live session at a stage waits for, or what it accepted. There is none before the start, and none after an error.
abbrev pub turn_at : Stage → Option Turn
turn_at (Building state) = None
turn_at (Waiting s) = Some (turns.Waiting (live_of s))
turn_at (Editing a) = Some (turns.Editing (edit_of a))
turn_at (Accepted state) = Some (turns.Accepted state)
turn_at (Ended error) = None

-- A call of a program changes the stage, as its contract says.
pub data Step (old new : Stage) : Type 0 where
  -- `gabro_press`, `gabro_click`
  pressed : (event : Event) → Presses event old new → Step old new
  -- `gabro_press_all`
  pressed_all : (events : List Event) → PressesAll events old new → Step old new
  -- `gabro_type`, `gabro_type_to_key`
  typed : (bytes : List ℕ) (heard hears : Decoder) → Types bytes heard hears old new → Step old new
  -- `gabro_idle`
  silent : (heard hears : Decoder) → Idles heard hears old new → Step old new
  -- `gabro_answer`
  answered : (text : List ℕ) → Says text old new → Step old new
  -- `gabro_resize`
  resized : (kind : TerminalKind) → Resizes kind old new → Step old new
  -- `gabro_start`
  started : (folds : Folds) (first : SelectionKey) → SetsStart folds first old new → Step old new
  -- `gabro_select`
  selected : (key : SelectionKey) → Selects key old new → Step old new
  -- `gabro_keys`
  own_keys : (keys : List OwnKey) → SetsKeys keys old new → Step old new

-- Calls of a program lead from stage to stage. A call that changes no stage is left out.
pub data Steps : Stage → Stage → Type 0 where
  no_more : {stage : Stage} → Steps stage stage
  goes_on : {old next last : Stage} → Step old next → Steps next last → Steps old last

-- Calls of a live session lead from the start of `given` on the screen `kind` to what the session at a stage waits for or accepted, or the
-- session has ended in an error.
pub data HasCome (given : RecordState) (kind : TerminalKind) (stage : Stage) : Type 0 where
  comes : (calls : List Call) (turn : Turn) → turn_at stage ≡ Some turn
      → Path (turns.Waiting (record { session = start given; kind = kind })) calls turn → HasCome given kind stage
  fails : (error : RecordError) → stage ≡ Ended error → HasCome given kind stage
