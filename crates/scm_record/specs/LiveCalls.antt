-- The calls of a program on a live session: what each leads to, in steps of a run, and sequences of calls as runs.
use Rattle.std.specs.Prelude.{◌≡◌, ℕ, Bool, true, false, IsTrue, Err, List, [], ◌∷◌, ◌++◌}
use Rattle.scm_errors.specs.declared.error.RecordError.{RecordError}
use Rattle.scm_types.specs.declared.state.RecordState.{RecordState}
use Rattle.scm_input.specs.declared.events.Event.{Event}
use Rattle.scm_input.specs.declared.inputs.TerminalKind.{TerminalKind}
use Rattle.scm_input.specs.Script.{Read, Batch, Answer, Reply, always}
use Rattle.scm_record.specs.Session.{Session}
use Rattle.scm_record.specs.Frames.{IsSceneOf, scene_of}
use Rattle.scm_record.specs.Live.{Live, LiveEdit, on_screen}
use Rattle.scm_record.specs.Run.{Setting, setting, World, world_in, after_edit, Point, Before, Drawn, Accepted, resume, Reaches, Stops}
use Rattle.scm_record.specs.Headline.{BatchesAreHandled, BatchesBeginAsDrawn, ClicksHitOwners, ConfirmsQuit, AcceptsConfirmedQuits}
use Rattle.scm_record.specs.declared.live.Turn.{Turn}
use Rattle.scm_record.specs.declared.live.Turn.TheVariants.{Waiting, Editing, Accepted as Done}

-- the setting of a live session: its screen, the reads and edits that follow, and a store without places
abbrev pub live_setting : TerminalKind → List Read → List Reply → Setting
live_setting kind reads edits = setting kind reads edits (record { texts = []; frames = 0 })

-- the point of a run at which a session waits for an event, after `frames` frames
abbrev pub waiting_point : Live → List Read → List Reply → ℕ → Point
waiting_point l reads edits frames = Drawn (world_in (live_setting l.kind reads edits) l.session frames)

-- the point of a run at which a session that waits for a message continues: with the next of the edits, and then the rest of its batch.
-- `drawn` is the session last drawn.
abbrev pub editing_point : Session → LiveEdit → List Read → List Reply → ℕ → Point
editing_point drawn a reads edits frames =
    resume drawn a.rest (after_edit (world_in (live_setting a.kind reads edits) a.session frames) a.commit edits)

-- the frame shows the session `drawn`: what is left of the batch acts on it
abbrev pub IsDrawnFor : LiveEdit → Session → Type 0
IsDrawnFor a drawn = IsSceneOf (scene_of a.kind drawn) a.frame

-- the steps lead from `p` to a turn, with `reads` and `edits` left; a session that waits for an event has none pending
abbrev pub Leads : Point → TerminalKind → List Read → List Reply → Turn → Type 0
Leads p kind reads edits (Waiting l) =
    (frames : ℕ) × (l.kind ≡ kind) × (l.session.pending ≡ []) × Reaches p (waiting_point l reads edits frames)
Leads p kind reads edits (Editing a) =
    (drawn : Session) × (frames : ℕ) × (a.kind ≡ kind) × IsDrawnFor a drawn × Reaches p (editing_point drawn a reads edits frames)
Leads p kind reads edits (Done state) =
    (s : Session) × (frames : ℕ) × (s.shown.state ≡ state) × Reaches p (Accepted (world_in (live_setting kind reads edits) s frames))

-- the steps lead from `p` to the fault of `error` and reach no confirmed quit, or an allocation failed on the way
abbrev pub Fails : Point → RecordError → Type 0
Fails p error = (w : World) × Stops error p w × AcceptsConfirmedQuits p (Err error)

-- an edit that answers `text`, whatever the message was
abbrev pub fixed_reply : List ℕ → Reply
fixed_reply text = always (Answer text)

-- `list`, handed in to `l` as one batch, leads to `turn`: it is one read
abbrev pub BatchLeads : Live → List Event → Turn → Type 0
BatchLeads l list turn =
    (reads : List Read) (edits : List Reply) (frames : ℕ)
    → Leads (waiting_point l (Batch list ∷ reads) edits frames) l.kind reads edits turn

-- `event`, handed in to `l`, leads to `turn`: it is a read of this event alone
abbrev pub EventLeads : Live → Event → Turn → Type 0
EventLeads l event turn =
    (reads : List Read) (edits : List Reply) (frames : ℕ)
    → Leads (waiting_point l (Batch (event ∷ []) ∷ reads) edits frames) l.kind reads edits turn

-- the message `text`, handed in to `a`, leads to `turn`: it is the next of the edits. Then the rest of the batch is handled.
abbrev pub MessageLeads : LiveEdit → List ℕ → Turn → Type 0
MessageLeads a text turn =
    (drawn : Session) (reads : List Read) (edits : List Reply) (frames : ℕ) → IsDrawnFor a drawn
    → Leads (editing_point drawn a reads (fixed_reply text ∷ edits) frames) a.kind reads edits turn

-- `list`, handed in to `l` as one batch, ends the session with `error`
abbrev pub BatchFails : Live → List Event → RecordError → Type 0
BatchFails l list error =
    (reads : List Read) (edits : List Reply) (frames : ℕ) → Fails (waiting_point l (Batch list ∷ reads) edits frames) error

-- `event`, handed in to `l`, ends the session with `error`
abbrev pub EventFails : Live → Event → RecordError → Type 0
EventFails l event error =
    (reads : List Read) (edits : List Reply) (frames : ℕ) → Fails (waiting_point l (Batch (event ∷ []) ∷ reads) edits frames) error

-- the message `text`, handed in to `a`, ends the session with `error`
abbrev pub MessageFails : LiveEdit → List ℕ → RecordError → Type 0
MessageFails a text error =
    (drawn : Session) (reads : List Read) (edits : List Reply) (frames : ℕ) → IsDrawnFor a drawn
    → Fails (editing_point drawn a reads (fixed_reply text ∷ edits) frames) error

-- ---- sequences of calls

-- a call of a program on a live session
pub data Call : Type 0 where
  -- `handle`: hands in an event
  Press : Event → Call
  -- `handle_all`: hands in events as one batch
  PressAll : List Event → Call
  -- `answer`: hands in the message that was asked for
  Say : List ℕ → Call
  -- `resize`: continues on another screen
  Resize : TerminalKind → Call

-- whether all calls are on one screen: none is a resize
abbrev pub is_on_one_screen : List Call → Bool
is_on_one_screen [] = true
is_on_one_screen (Press event ∷ calls) = is_on_one_screen calls
is_on_one_screen (PressAll list ∷ calls) = is_on_one_screen calls
is_on_one_screen (Say text ∷ calls) = is_on_one_screen calls
is_on_one_screen (Resize kind ∷ calls) = false

-- the reads of a run that does the same as the calls: one for each event, and one for each batch
abbrev pub reads_of : List Call → List Read
reads_of [] = []
reads_of (Press event ∷ calls) = Batch (event ∷ []) ∷ reads_of calls
reads_of (PressAll list ∷ calls) = Batch list ∷ reads_of calls
reads_of (Say text ∷ calls) = reads_of calls
reads_of (Resize kind ∷ calls) = reads_of calls

-- the edits of that run: one for each message
abbrev pub edits_of : List Call → List Reply
edits_of [] = []
edits_of (Press event ∷ calls) = edits_of calls
edits_of (PressAll list ∷ calls) = edits_of calls
edits_of (Say text ∷ calls) = fixed_reply text ∷ edits_of calls
edits_of (Resize kind ∷ calls) = edits_of calls

-- the calls lead from turn to turn, each by its contract
pub data Path : Turn → List Call → Turn → Type 0 where
  still : {turn : Turn} → Path turn [] turn
  press : {l : Live} {event : Event} {turn last : Turn} {calls : List Call}
      → EventLeads l event turn → Path turn calls last → Path (Waiting l) (Press event ∷ calls) last
  press_all : {l : Live} {list : List Event} {turn last : Turn} {calls : List Call}
      → BatchLeads l list turn → Path turn calls last → Path (Waiting l) (PressAll list ∷ calls) last
  say : {a : LiveEdit} {text : List ℕ} {turn last : Turn} {calls : List Call}
      → MessageLeads a text turn → Path turn calls last → Path (Editing a) (Say text ∷ calls) last
  resize : {l : Live} {kind : TerminalKind} {last : Turn} {calls : List Call}
      → Path (Waiting (on_screen l kind)) calls last → Path (Waiting l) (Resize kind ∷ calls) last

-- the start of a run of `s` on the screen `kind`, with the reads and edits of `calls` and then `reads` and `edits`
abbrev pub beginning : Session → TerminalKind → List Call → List Read → List Reply → Point
beginning s kind calls reads edits = Before (world_in (live_setting kind (reads_of calls ++ reads) (edits_of calls ++ edits)) s 0)

-- the start of the run with those of `calls` alone
abbrev pub run_of : Session → TerminalKind → List Call → Point
run_of s kind calls = beginning s kind calls [] []

-- the turn is accepted with a state exactly if the run from `p` reaches a confirmed quit with it
abbrev pub IsConfirmed : Point → Turn → Type 0
IsConfirmed p (Waiting l) = (state : RecordState) → ConfirmsQuit p state → ⊥
IsConfirmed p (Editing a) = (state : RecordState) → ConfirmsQuit p state → ⊥
IsConfirmed p (Done state) = ConfirmsQuit p state

-- calls on one screen are one run of `s`, which leads to `turn`
pub record IsRun (s : Session) (kind : TerminalKind) (calls : List Call) (turn : Turn) : Type 0 where
  -- the steps lead to the turn, whatever reads and edits come later
  pub leads : (reads : List Read) (edits : List Reply) → Leads (beginning s kind calls reads edits) kind reads edits turn
  -- batches, clicks and confirmed quits are as in any run
  pub handled : BatchesAreHandled (run_of s kind calls)
  pub begun : BatchesBeginAsDrawn (run_of s kind calls)
  pub clicks : ClicksHitOwners (run_of s kind calls)
  pub confirmed : IsConfirmed (run_of s kind calls) turn

-- calls on any screens are one run for each screen, which starts with the session that the previous run left
pub data AreRuns : Session → TerminalKind → List Call → Turn → Type 0 where
  last : {s : Session} {kind : TerminalKind} {calls : List Call} {turn : Turn}
      → IsTrue (is_on_one_screen calls) → IsRun s kind calls turn → AreRuns s kind calls turn
  resized : {s : Session} {kind other : TerminalKind} {calls later : List Call} {l : Live} {turn : Turn}
      → IsTrue (is_on_one_screen calls) → IsRun s kind calls (Waiting l)
      → AreRuns l.session other later turn → AreRuns s kind (calls ++ Resize other ∷ later) turn

-- ---- sessions that end in an error

-- a call that ends the session with `error`, by its contract: an event, a batch or a message
pub data EndsIn (error : RecordError) : Turn → Call → Type 0 where
  press_fails : {l : Live} {event : Event} → EventFails l event error → EndsIn error (Waiting l) (Press event)
  press_all_fails : {l : Live} {list : List Event} → BatchFails l list error → EndsIn error (Waiting l) (PressAll list)
  say_fails : {a : LiveEdit} {text : List ℕ} → MessageFails a text error → EndsIn error (Editing a) (Say text)

-- the run of `s` with the reads and edits of `calls` fails with `error`, whatever reads and edits come later
abbrev pub IsFailedRun : Session → TerminalKind → List Call → RecordError → Type 0
IsFailedRun s kind calls error =
    (reads : List Read) (edits : List Reply) → Fails (beginning s kind calls reads edits) error
