-- What a session waits for (its stage), and how calls change it.
use Rattle.std.specs.Prelude.{◌≡◌, ℕ, ◌+◌, List, [], Option, Some, None, Result, Ok, Err, IsTrue, Bool, true, false, option_and_then}
use Rattle.scm_errors.specs.declared.error.RecordError.{RecordError}
use Rattle.scm_types.specs.declared.state.RecordState.{RecordState}
use Rattle.scm_types.specs.Limits.{is_accepted_state}
use Rattle.scm_input.specs.declared.events.Event.{Event}
use Rattle.scm_input.specs.declared.events.Event.TheVariants.{Click}
use Rattle.scm_input.specs.declared.inputs.TerminalKind.{TerminalKind}
use Rattle.scm_terminal.specs.declared.decoder.Decoder.{Decoder}
use Rattle.scm_terminal.specs.Decoders.{HasHeard}
use Rattle.scm_record.specs.Session.{start}
use Rattle.scm_record.specs.Live.{Live, LiveEdit, on_screen}
use Rattle.scm_record.specs.LiveCalls.{EventLeads, MessageLeads, EventFails, MessageFails}
use Rattle.scm_record.specs.Typed.{BytesLead, BytesFail, SilenceLeads, SilenceFails}
use Rattle.scm_record.specs.declared.live.Turn.{Turn}
use Rattle.scm_record.specs.declared.live.Turn.TheVariants as turns
use Rattle.scm_json.specs.Form.{state_of}
use Rattle.serde_json.specs.Read.{read}
use Rattle.scm_front_paint.specs.declared.view.ViewTurn.{ViewTurn}
use Rattle.scm_front_paint.specs.declared.view.ViewTurn.TheVariants as views
use Rattle.scm_front_paint.specs.Seen.{Seen, SeenEditing}
use Rattle.scm_front_paint.specs.Views.{ViewBytes, ViewBytesFail, ViewSilenceFails, ViewSayFails, ViewSays, ViewSilence}
use Rattle.scm_open_session.specs.declared.running.Running.TheVariants as running
use Rattle.scm_open_session.specs.declared.running.MessageEdit.TheVariants as edits
use Rattle.scm_open_session.specs.declared.open_session.OpenSession.{OpenSession}
use Rattle.scm_open_session.specs.declared.open_session.Stage.{Stage}
use Rattle.scm_open_session.specs.declared.open_session.Stage.TheVariants.{Building, Waiting, Editing, Accepted, Ended}
use Rattle.scm_open_session.specs.Layered.{OrRefused, ViewPresses, ViewResizes}
use Rattle.scm_open_session.specs.Painters.{AreNew}
use Rattle.scm_open_session.specs.Running.{offset_of}
use Rattle.scm_c_values.specs.Ends.{code_of_failure}
use Rattle.scm_c_values.specs.Screens.{screen_of}

-- The code of a stage.
abbrev pub code_of_stage : Stage → ℕ
code_of_stage (Building state) = 5
code_of_stage (Waiting l) = 0
code_of_stage (Editing a) = 1
code_of_stage (Accepted state) = 2
code_of_stage (Ended error) = 3

-- The code of what a session waits for, or of a closed session.
abbrev pub code_of_session : Option OpenSession → ℕ
code_of_session None = 4
code_of_session (Some inner) = code_of_stage inner.stage

-- ---- ends

-- The code of how a session ended. 0 at a stage where it goes on.
abbrev pub end_of_stage : Stage → ℕ
end_of_stage (Building state) = 0
end_of_stage (Waiting l) = 0
end_of_stage (Editing a) = 0
end_of_stage (Accepted state) = 1
end_of_stage (Ended error) = code_of_failure error

-- The code of how a session ended. 0 if it goes on or is closed.
abbrev pub end_of_session : Option OpenSession → ℕ
end_of_session None = 0
end_of_session (Some inner) = end_of_stage inner.stage

-- ---- what a session waits for

-- Whether a session at this stage waits for an event.
abbrev pub is_waiting : Stage → Bool
is_waiting (Building state) = false
is_waiting (Waiting l) = true
is_waiting (Editing a) = false
is_waiting (Accepted state) = false
is_waiting (Ended error) = false

-- Whether a session at this stage waits for a message.
abbrev pub is_editing : Stage → Bool
is_editing (Building state) = false
is_editing (Waiting l) = false
is_editing (Editing a) = true
is_editing (Accepted state) = false
is_editing (Ended error) = false

-- ---- stages

-- The stage after a call of a live session with this result.
abbrev pub stage_after : Result Turn RecordError → Stage
stage_after (Ok (turns.Waiting l)) = Waiting (running.Plain l)
stage_after (Ok (turns.Editing a)) = Editing (edits.Plain a)
stage_after (Ok (turns.Accepted state)) = Accepted state
stage_after (Err error) = Ended error

-- The stage after a call of a view with this result.
abbrev pub stage_of_view : Result ViewTurn RecordError → Stage
stage_of_view (Ok (views.Waiting v)) = Waiting (running.Layered v)
stage_of_view (Ok (views.Editing v)) = Editing (edits.Layered v)
stage_of_view (Ok (views.Accepted state)) = Accepted state
stage_of_view (Err error) = Ended error

-- An event changes the stage as the contract of `LiveSession::handle` says.
pub data Presses (event : Event) : Stage → Stage → Type 0 where
  turned : {l : Live} (turn : Turn) → EventLeads l event turn → Presses event (Waiting (running.Plain l)) (stage_after (Ok turn))
  failed : {l : Live} {error : RecordError} → EventFails l event error → Presses event (Waiting (running.Plain l)) (Ended error)
  layer_turned : {v : Seen} (turn : ViewTurn) → ViewPresses v event turn
      → Presses event (Waiting (running.Layered v)) (stage_of_view (Ok turn))
  layer_failed : {v : Seen} {error : RecordError} → OrRefused (EventFails v.front.beneath event) error
      → Presses event (Waiting (running.Layered v)) (Ended error)

-- A message changes the stage as the contract of `Editing::answer` says.
pub data Says (text : List ℕ) : Stage → Stage → Type 0 where
  turned : {a : LiveEdit} (turn : Turn) → MessageLeads a text turn → Says text (Editing (edits.Plain a)) (stage_after (Ok turn))
  failed : {a : LiveEdit} {error : RecordError} → MessageFails a text error → Says text (Editing (edits.Plain a)) (Ended error)
  layer_turned : {v : SeenEditing} (turn : ViewTurn) → ViewSays v text turn
      → Says text (Editing (edits.Layered v)) (stage_of_view (Ok turn))
  layer_failed : {v : SeenEditing} {error : RecordError} → ViewSayFails v text error
      → Says text (Editing (edits.Layered v)) (Ended error)

-- The event of a click at `row` and `column` of the screen. With the layer the window may begin further left.
abbrev pub click_at : Stage → ℕ → ℕ → Event
click_at (Building state) row column = Click row column
click_at (Waiting s) row column = Click row (offset_of s + column)
click_at (Editing a) row column = Click row column
click_at (Accepted state) row column = Click row column
click_at (Ended error) row column = Click row column

-- A click changes the stage as its event does.
abbrev pub Clicks : ℕ → ℕ → Stage → Stage → Type 0
Clicks row column old new = Presses (click_at old row column) old new

-- A resize changes the screen of a session that waits for an event, and nothing else.
pub data Resizes (kind : TerminalKind) : Stage → Stage → Type 0 where
  resized : {l : Live} → Resizes kind (Waiting (running.Plain l)) (Waiting (running.Plain (on_screen l kind)))
  layer_resized : {v next : Seen} → ViewResizes kind v next → Resizes kind (Waiting (running.Layered v)) (Waiting (running.Layered next))

-- Bytes from a terminal change the stage, and the decoder from `old` to `new`.
pub data Types (bytes : List ℕ) (old new : Decoder) : Stage → Stage → Type 0 where
  turned : {l : Live} (turn : Turn) → BytesLead l old new bytes turn → Types bytes old new (Waiting (running.Plain l)) (stage_after (Ok turn))
  failed : {l : Live} {error : RecordError} → BytesFail l old new bytes error → Types bytes old new (Waiting (running.Plain l)) (Ended error)
  layer_turned : {v : Seen} (turn : ViewTurn) → ViewBytes v old new bytes turn
      → Types bytes old new (Waiting (running.Layered v)) (stage_of_view (Ok turn))
  layer_failed : {v : Seen} {error : RecordError} → ViewBytesFail v old new bytes error → Types bytes old new (Waiting (running.Layered v)) (Ended error)

-- The silence of a terminal changes the stage, and the decoder from `old` to `new`.
pub data Idles (old new : Decoder) : Stage → Stage → Type 0 where
  turned : {l : Live} (turn : Turn) → SilenceLeads l old new turn → Idles old new (Waiting (running.Plain l)) (stage_after (Ok turn))
  failed : {l : Live} {error : RecordError} → SilenceFails l old new error → Idles old new (Waiting (running.Plain l)) (Ended error)
  layer_turned : {v : Seen} (turn : ViewTurn) → ViewSilence v old new turn
      → Idles old new (Waiting (running.Layered v)) (stage_of_view (Ok turn))
  layer_failed : {v : Seen} {error : RecordError} → ViewSilenceFails v old new error → Idles old new (Waiting (running.Layered v)) (Ended error)

-- ---- sessions

-- A new session over the state with the JSON form `json`, in a window of `width` columns and `height` rows. Nothing was typed
-- and nothing is painted.
pub record Begins (json : List ℕ) (width height : ℕ) (inner : OpenSession) : Type 0 where
  -- the state
  pub given : RecordState
  -- the JSON is its form
  pub form : option_and_then state_of (read json) ≡ Some given
  -- it passes no limit
  pub accepted : IsTrue (is_accepted_state given)
  -- the session waits for its first event
  pub begun : inner.stage ≡ Waiting (running.Plain (record { session = start given; kind = screen_of width height }))
  -- the decoder has heard no bytes
  pub unheard : HasHeard inner.decoder false []
  -- nothing counts as painted
  pub unpainted : AreNew inner.painter

-- A session is open, and `Is` is true of it.
pub data IsOpenAt (Is : OpenSession → Type 0) : Option OpenSession → Type 0 where
  open_at : {inner : OpenSession} → Is inner → IsOpenAt Is (Some inner)

-- The stage of an open session changes by `Goes`. Its decoder and its painter stay.
pub data ChangesStage (Goes : Stage → Stage → Type 0) : Option OpenSession → Option OpenSession → Type 0 where
  changes_stage : {old new : OpenSession} → Goes old.stage new.stage → new.decoder ≡ old.decoder → new.painter ≡ old.painter
      → ChangesStage Goes (Some old) (Some new)

-- The stage changes by an event. Without an event this is false.
abbrev pub HandsIn : Option Event → Option OpenSession → Option OpenSession → Type 0
HandsIn None old new = ⊥
HandsIn (Some event) old new = ChangesStage (Presses event) old new

-- The stage and the decoder of an open session change by `Goes`. Its painter stays.
pub data ChangesDecoder (Goes : Decoder → Decoder → Stage → Stage → Type 0)
    : Option OpenSession → Option OpenSession → Type 0 where
  changes_decoder : {old new : OpenSession} → Goes old.decoder new.decoder old.stage new.stage → new.painter ≡ old.painter
      → ChangesDecoder Goes (Some old) (Some new)
