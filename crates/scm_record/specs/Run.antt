-- Runs of a session on an input, as steps from point to point.
use Rattle.std.specs.Prelude.{◌≡◌, ℕ, ◌+◌, nat_lt, List, [], ◌∷◌, length, Option, Some, MatchOption, codes, if◌then◌else◌}
use Rattle.scm_errors.specs.declared.error.RecordError.{RecordError}
use Rattle.scm_types.specs.Edits.{modify}
use Rattle.scm_errors.specs.Fault.{Fault, Cancelled, Other, fault_of}
use Rattle.scm_types.specs.Limits.{is_short_text}
use Rattle.scm_input.specs.declared.events.Event.{Event}
use Rattle.scm_input.specs.declared.inputs.TerminalKind.{TerminalKind}
use Rattle.scm_record.specs.declared.session.Flow.{Flow}
use Rattle.scm_record.specs.declared.session.Flow.TheVariants as flows
use Rattle.scm_input.specs.Script.{Read, Batch, BrokenRead, Edit, Answer, BrokenEdit, Reply, no_events_left, no_messages_left}
use Rattle.scm_input.specs.Store.{Store}
use Rattle.scm_record.specs.Session.{Session, after_frame, message_text, with_message, without_pending}
use Rattle.scm_record.specs.Frames.{Scene, scene_of}
use Rattle.scm_record.specs.FrameQueries.{shot_of}
use Rattle.scm_record.specs.Step.{Change, change}

-- What a run is given from outside: the screen, the rest of the script, and the store. (A `World` also has the session.)
pub record Setting : Type 0 where
  -- the screen
  pub kind : TerminalKind
  -- the reads that are left
  pub reads : List Read
  -- the edits that are left
  pub edits : List Reply
  -- the places for screenshots, and the count of frames
  pub store : Store

-- the setting of these parts
abbrev pub setting : TerminalKind → List Read → List Reply → Store → Setting
setting kind reads edits store = record { kind = kind; reads = reads; edits = edits; store = store }

-- All that a step of a run reads or changes: the session, and what its setting has left.
pub record World : Type 0 where
  -- the session
  pub session : Session
  -- the screen
  pub kind : TerminalKind
  -- the reads that are left
  pub reads : List Read
  -- the edits that are left
  pub edits : List Reply
  -- the texts of the store
  pub texts : List (Option (List ℕ))
  -- how many frames were drawn
  pub frames : ℕ

-- the world of the session `s` in the setting `a`, after `frames` frames
abbrev pub world_in : Setting → Session → ℕ → World
world_in a s frames =
    record { session = s; kind = a.kind; reads = a.reads; edits = a.edits; texts = a.store.texts; frames = frames }

-- the world with another session
abbrev pub with_session : World → Session → World
with_session w s = record w { session = s }

-- the world with other reads left
abbrev pub with_reads : World → List Read → World
with_reads w reads = record w { reads = reads }

-- the world with other edits left
abbrev pub with_edits : World → List Reply → World
with_edits w edits = record w { edits = edits }

-- the world with `text` at index `place` of the store
abbrev pub with_text : World → ℕ → List ℕ → World
with_text w place text = record w { texts = modify (λ _. Some text) w.texts place }

-- the world after a frame is drawn
abbrev pub with_frame_drawn : World → World
with_frame_drawn w = record w { session = after_frame w.session; frames = w.frames + 1 }

-- the result of an event in a world: the run goes on, is accepted, or fails
pub data Outcome : Type 0 where
  Goes : World → Outcome
  Ends : World → Outcome
  Breaks : Fault → World → Outcome

-- a point of a run: before a frame, after it, within a batch (the session last drawn, the events left), or at its end
pub data Point : Type 0 where
  Before : World → Point
  Drawn : World → Point
  Within : Session → World → List Event → Point
  Accepted : World → Point
  Failed : Fault → World → Point

-- the fault of a screenshot at a place that the store lacks
abbrev pub no_such_place : Fault
no_such_place = Other (codes "no such screenshot place")

-- the fault of a message that is too long
abbrev pub too_long : Fault
too_long = Other (codes "commit message too long")

-- the outcome of a screenshot: `text` is kept at index `place` of the store, if there is such a place
abbrev pub after_screenshot : World → ℕ → List ℕ → Outcome
after_screenshot w place text = if nat_lt place (length w.texts) then Goes (with_text w place text) else Breaks no_such_place w

-- the outcome of an edit: its answer becomes the message of the commit at index `commit`
abbrev pub after_answer : World → ℕ → Edit → Outcome
after_answer w commit (Answer text) =
    if is_short_text text then Goes (with_session w (with_message w.session commit text)) else Breaks too_long w
after_answer w commit (BrokenEdit fault) = Breaks fault w

-- the outcome of the first of `edits` on the message of the commit at index `commit`
abbrev pub after_edit : World → ℕ → List Reply → Outcome
after_edit w commit [] = after_answer (with_edits w []) commit no_messages_left
after_edit w commit (reply ∷ edits) = after_answer (with_edits w edits) commit (reply (message_text w.session commit))

-- the outcome of what the run does next in `w`; a screenshot is of the scene, or blank if the screen was cleared
abbrev pub outcome_by : Scene → World → Flow → Outcome
outcome_by scene w flows.GoOn = Goes w
outcome_by scene w flows.Accept = Ends w
outcome_by scene w flows.Cancel = Breaks Cancelled w
outcome_by scene w (flows.Edit commit) = after_edit w commit w.edits
outcome_by scene w (flows.Shoot place) = after_screenshot w place (shot_of scene w.session.cleared)

-- the outcome of a change
abbrev pub after_change : Scene → World → Change → Outcome
after_change scene w c = outcome_by scene (with_session w c.session) c.flow

-- the outcome of an event in a scene
abbrev pub step_in : Scene → World → Event → Outcome
step_in scene w event = after_change scene w (change scene w.session event)

-- the outcome of an event, with `drawn` as the session last drawn
abbrev pub step : Session → World → Event → Outcome
step drawn w event = step_in (scene_of w.kind drawn) w event

-- the point after an outcome, with `rest` left of the batch
abbrev pub resume : Session → List Event → Outcome → Point
resume drawn rest (Goes w) = Within drawn w rest
resume drawn rest (Ends w) = Accepted w
resume drawn rest (Breaks fault w) = Failed fault w

-- the point after the first of the reads that are left
abbrev pub next_read : World → List Read → Point
next_read w [] = Failed no_events_left w
next_read w (Batch list ∷ reads) = Within w.session (with_reads w reads) list
next_read w (BrokenRead fault ∷ reads) = Failed fault (with_reads w reads)

-- the point where a batch begins: all pending events, or the next read if there are none
abbrev pub batch : World → List Event → Point
batch w [] = next_read w w.reads
batch w (event ∷ rest) = Within w.session (with_session w (without_pending w.session)) (event ∷ rest)

-- the point after one step of a run
abbrev pub after : Point → Point
after (Before w) = Drawn (with_frame_drawn w)
after (Drawn w) = batch w w.session.pending
after (Within drawn w []) = Before w
after (Within drawn w (event ∷ rest)) = resume drawn rest (step drawn w event)
after (Accepted w) = Accepted w
after (Failed fault w) = Failed fault w

-- steps lead from `p` to a point
pub data Reaches (p : Point) : Point → Type 0 where
  here : Reaches p p
  on : {q : Point} → Reaches p q → Reaches p (after q)

-- the point is an end of a run
abbrev pub IsEnd : Point → Type 0
IsEnd (Before w) = ⊥
IsEnd (Drawn w) = ⊥
IsEnd (Within drawn w rest) = ⊥
IsEnd (Accepted w) = Unit {0}
IsEnd (Failed fault w) = Unit {0}

-- a run from `p` has only one end
abbrev pub HasOneEnd : Point → Type 0
HasOneEnd p = (q r : Point) → Reaches p q → Reaches p r → IsEnd q → IsEnd r → q ≡ r

-- the world at a point
abbrev pub world_at : Point → World
world_at (Before w) = w
world_at (Drawn w) = w
world_at (Within drawn w rest) = w
world_at (Accepted w) = w
world_at (Failed fault w) = w

-- `w` has the script, the texts and the frames of `v`; its session may be another
pub record IsSameButSession (w v : World) : Type 0 where
  pub reads : w.reads ≡ v.reads
  pub edits : w.edits ≡ v.edits
  pub texts : w.texts ≡ v.texts
  pub frames : w.frames ≡ v.frames

-- the error ends a run from `p` and leaves `w`: a fault ends it by steps, an allocation failure at a point that it reaches
abbrev pub Stops : RecordError → Point → World → Type 0
Stops error p w =
    MatchOption (fault_of error) ((q : Point) × Reaches p q × IsSameButSession w (world_at q)) (λ fault. Reaches p (Failed fault w))
