-- The log of the calls of the session beneath a layer.
use Rattle.std.specs.Prelude.{◌≡◌, ℕ, Bool, true, false, IsTrue, List, [], ◌∷◌, ◌++◌, Option, Some}
use Rattle.std.specs.declared.alloc.Global.{Global}
use Rattle.scm_types.specs.declared.state.RecordState.{RecordState}
use Rattle.scm_types.specs.declared.keys.SelectionKey.{SelectionKey}
use Rattle.scm_types.specs.Limits.{is_accepted_state}
use Rattle.scm_input.specs.declared.events.Event.{Event}
use Rattle.scm_input.specs.declared.inputs.TerminalKind.{TerminalKind}
use Rattle.scm_record.specs.Session.{start}
use Rattle.scm_record.specs.Live.{Live, LiveEdit, on_screen}
use Rattle.scm_record.specs.Jumps.{can_select, after_selecting}
use Rattle.scm_record.specs.LiveCalls.{Call, Press, PressAll, Say, Resize, EventLeads, BatchLeads, MessageLeads}
use Rattle.scm_record.specs.declared.live.Turn.{Turn}
use Rattle.scm_record.specs.declared.live.Turn.TheVariants.{Waiting, Editing}
use Rattle.scm_front.specs.Begun.{HasBegun}
use Rattle.scm_front.specs.declared.logging.LoggedCall.{LoggedCall}
use Rattle.scm_front.specs.declared.logging.LoggedCall.TheVariants.{Pressed, Batched, Jumped, Answered, Resized}
use Rattle.scm_front.specs.declared.logging.CallLog.{CallLog}
use Rattle.scm_front.specs.declared.logging.Logging.{Logging}
use Rattle.scm_front.specs.declared.logging.Logging.TheVariants as loggings

-- ---- what logged calls lead to

-- The logged calls lead from turn to turn, and the session handles these calls: each logged one is the same call. A jump is logged by its key, and is
-- a batch of moves that leads to the session with the key selected.
pub data Logs : Turn → List LoggedCall → List Call → Turn → Type 0 where
  logs_nothing : {turn : Turn} → Logs turn [] [] turn
  logs_event : {l : Live} {event : Event} {turn last : Turn} {list : List LoggedCall} {calls : List Call}
      → EventLeads l event turn → Logs turn list calls last → Logs (Waiting l) (Pressed event ∷ list) (Press event ∷ calls) last
  logs_batch : {l : Live} {events : List Event} {turn last : Turn} {list : List LoggedCall} {calls : List Call}
      → BatchLeads l events turn → Logs turn list calls last → Logs (Waiting l) (Batched events ∷ list) (PressAll events ∷ calls) last
  logs_jump : {l : Live} {key : SelectionKey} {moves : List Event} {last : Turn} {list : List LoggedCall} {calls : List Call}
      → can_select l key ≡ true → BatchLeads l moves (Waiting (after_selecting l key)) → Logs (Waiting (after_selecting l key)) list calls last
      → Logs (Waiting l) (Jumped key ∷ list) (PressAll moves ∷ calls) last
  logs_message : {a : LiveEdit} {text : List ℕ} {turn last : Turn} {list : List LoggedCall} {calls : List Call}
      → MessageLeads a text turn → Logs turn list calls last → Logs (Editing a) (Answered text ∷ list) (Say text ∷ calls) last
  logs_screen : {l : Live} {kind : TerminalKind} {last : Turn} {list : List LoggedCall} {calls : List Call}
      → Logs (Waiting (on_screen l kind)) list calls last → Logs (Waiting l) (Resized kind ∷ list) (Resize kind ∷ calls) last

-- one logged call leads from turn to turn
abbrev pub LeadsBy : LoggedCall → Turn → Turn → Type 0
LeadsBy call first last = (calls : List Call) × Logs first (call ∷ []) calls last

-- the log has all calls: they lead from the start of a state, on the screen of the log, to the turn
pub record HasLog (log : CallLog) (turn : Turn) : Type 0 where
  pub given : RecordState
  pub accepted : IsTrue (is_accepted_state given)
  pub calls : List Call
  pub leads : Logs (Waiting (record { session = start given; kind = log.kind })) log.calls calls turn

-- no call was made yet: the turn is the start of a state
pub record IsStart (turn : Turn) : Type 0 where
  pub given : RecordState
  pub kind : TerminalKind
  pub accepted : IsTrue (is_accepted_state given)
  pub is : turn ≡ Waiting (record { session = start given; kind = kind })

-- what is logged is so
abbrev pub IsLogged : Logging → Turn → Type 0
IsLogged loggings.Fresh turn = IsStart turn
IsLogged loggings.Off turn = Unit {0}
IsLogged (loggings.On log) turn = HasLog log turn
IsLogged loggings.Lost turn = Unit {0}

-- the session beneath a layer began, and what is logged of its calls is so
pub record IsBegun (logging : Logging) (turn : Turn) : Type 0 where
  pub begun : HasBegun turn
  pub logged : IsLogged logging turn

-- ---- how a log grows

-- whether the calls are logged
abbrev pub is_on : Logging → Bool
is_on loggings.Fresh = false
is_on loggings.Off = false
is_on (loggings.On log) = true
is_on loggings.Lost = false

-- the call is logged behind the others, or the log is lost
pub data LogsMore (old : CallLog) (call : Option LoggedCall) (new : Logging) : Type 0 where
  adds : (newest : LoggedCall) → call ≡ Some newest → new ≡ loggings.On (record old { calls = old.calls ++ newest ∷ [] }) → LogsMore old call new
  loses : new ≡ loggings.Lost → LogsMore old call new

-- what is logged after a call
abbrev pub LogsCall : Logging → Option LoggedCall → Logging → Type 0
LogsCall loggings.Fresh call new = new ≡ loggings.Off
LogsCall loggings.Off call new = new ≡ loggings.Off
LogsCall (loggings.On old) call new = LogsMore old call new
LogsCall loggings.Lost call new = new ≡ loggings.Lost

-- the calls are logged from now on if none was made yet, on a screen of size `kind`
abbrev pub BeginsLog : TerminalKind → Global → Logging → Logging → Type 0
BeginsLog kind alloc loggings.Fresh new = new ≡ loggings.On (record { kind = kind; calls = []; alloc = alloc })
BeginsLog kind alloc loggings.Off new = new ≡ loggings.Off
BeginsLog kind alloc (loggings.On log) new = new ≡ loggings.On log
BeginsLog kind alloc loggings.Lost new = new ≡ loggings.Lost
