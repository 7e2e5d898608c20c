-- Views: a front on a terminal with a status row, from a column of the window on.
use Rattle.std.specs.Prelude.{◌≡◌, ℕ, nat_eq, Bool, true, false, not, ◌&&◌, List, [], ◌∷◌, ◌++◌, Option, Some, option_to_list}
use Rattle.scm_errors.specs.declared.error.RecordError.{RecordError}
use Rattle.scm_errors.specs.declared.error.RecordError.TheVariants.{OutOfMemory}
use Rattle.scm_types.specs.declared.state.RecordState.{RecordState}
use Rattle.scm_input.specs.declared.inputs.TerminalKind.{TerminalKind}
use Rattle.scm_input.specs.declared.inputs.TerminalKind.TheVariants.{Testing}
use Rattle.scm_input.specs.declared.terminal.TerminalEvent.{TerminalEvent}
use Rattle.scm_terminal.specs.declared.decoder.Decoder.{Decoder}
use Rattle.scm_terminal.specs.Decoders.{Adds}
use Rattle.scm_record.specs.Live.{on_screen}
use Rattle.scm_record.specs.LiveCalls.{Call, Path, MessageFails, MessageLeads}
use Rattle.scm_record.specs.Typed.{SilenceMeans}
use Rattle.scm_record.specs.declared.live.Turn.TheVariants as turns
use Rattle.scm_front.specs.declared.layer.Front.{Front}
use Rattle.scm_front.specs.declared.layer.FrontEditing.{FrontEditing}
use Rattle.scm_front.specs.declared.layer.FrontTurn.{FrontTurn}
use Rattle.scm_front.specs.declared.layer.FrontTurn.TheVariants as fronts
use Rattle.scm_front.specs.Actions.{has_key}
use Rattle.scm_front.specs.Fronts.{Hears, KeysFail, beneath_of, front_of}
use Rattle.scm_front_paint.specs.declared.pane.Pane.{Pane}
use Rattle.scm_front_paint.specs.declared.pane.Heard.{Heard}
use Rattle.scm_front_paint.specs.declared.pane.Heard.TheVariants.{Show, Hand}
use Rattle.scm_front_paint.specs.declared.view.ViewTurn.{ViewTurn}
use Rattle.scm_front_paint.specs.declared.view.ViewTurn.TheVariants.{Waiting, Editing, Accepted}
use Rattle.scm_front_paint.specs.Pane.{heard_as, is_free, kind_for, offset, with_x}
use Rattle.scm_front_paint.specs.Seen.{Seen, SeenEditing, seen}

-- ---- what a view does

-- whether two screens have the same size
abbrev pub is_kind : TerminalKind → TerminalKind → Bool
is_kind (Testing width height) (Testing other tall) = nat_eq width other && nat_eq height tall

-- the front `next` is `f` on the screen for the terminal: drawn anew if it was on another
pub data IsFitted (p : Pane) : Front → Front → Type 0 where
  fits : {f : Front} → is_kind f.beneath.kind (kind_for p f.beneath) ≡ true → IsFitted p f f
  drawn : {f next : Front} → is_kind f.beneath.kind (kind_for p f.beneath) ≡ false
      → next.beneath ≡ on_screen f.beneath (kind_for p f.beneath) → next.query ≡ f.query → next.kept ≡ f.kept → IsFitted p f next

-- a turn of the front, shown on the terminal
pub data IsShown (p : Pane) : FrontTurn → ViewTurn → Type 0 where
  waits : {f next : Front} → IsFitted p f next → IsShown p (fronts.Waiting f) (Waiting (seen next p))
  edits : {e : FrontEditing} → IsShown p (fronts.Editing e) (Editing (record { beneath = e; pane = p }))
  accepts : {state : RecordState} → IsShown p (fronts.Accepted state) (Accepted state)

-- whether `>`, `<` and the wheel with shift are the view's: no text is asked for, no dialog is open, and the event is none of the user's own keys
abbrev pub is_own : Seen → TerminalEvent → Bool
is_own v event = (not v.front.query.is_asking && is_free v.front.beneath) && not (has_key v.front.kept.keys event)

-- what an event of the terminal is to a view
abbrev pub heard_by : Seen → TerminalEvent → Heard
heard_by v event = heard_as v.pane (is_own v event) (offset v.pane v.front.beneath) event

-- an event of the front leads from it to a turn, shown on the terminal
pub record IsHanded (f : Front) (p : Pane) (event : TerminalEvent) (turn : ViewTurn) : Type 0 where
  pub calls : List Call
  pub middle : FrontTurn
  pub hears : Hears f (event ∷ []) calls middle
  pub shown : IsShown p middle turn

-- what is heard leads from a view to a turn
pub data ViewDoes : Seen → Heard → ViewTurn → Type 0 where
  -- the window is shown from another column on
  shows : {v : Seen} {x : ℕ} {turn : ViewTurn} → IsShown (with_x v.pane x) (fronts.Waiting v.front) turn → ViewDoes v (Show x) turn
  -- an event of the front
  hands : {v : Seen} {event : TerminalEvent} {turn : ViewTurn} → IsHanded v.front v.pane event turn → ViewDoes v (Hand event) turn

-- whether a turn waits for the next event
abbrev pub waits_on : ViewTurn → Bool
waits_on (Waiting v) = true
waits_on (Editing editing) = false
waits_on (Accepted state) = false

-- Events of the terminal lead from a view to a turn. After the first that ends the session or asks for a message, the rest is dropped.
pub data ViewHears : Seen → List TerminalEvent → ViewTurn → Type 0 where
  no_more : {v : Seen} → ViewHears v [] (Waiting v)
  ends : {v : Seen} {event : TerminalEvent} {dropped : List TerminalEvent} {turn : ViewTurn}
      → ViewDoes v (heard_by v event) turn → waits_on turn ≡ false → ViewHears v (event ∷ dropped) turn
  goes_on : {v next : Seen} {event : TerminalEvent} {later : List TerminalEvent} {turn : ViewTurn}
      → ViewDoes v (heard_by v event) (Waiting next) → ViewHears next later turn → ViewHears v (event ∷ later) turn

-- bytes lead to a turn: the decoder reads them all, and the events that it finds are heard
pub record ViewBytes (v : Seen) (old new : Decoder) (bytes : List ℕ) (turn : ViewTurn) : Type 0 where
  pub found : List TerminalEvent
  pub adds : Adds old new bytes [] found
  pub hears : ViewHears v found turn

-- a silence leads to a turn: the event that it means, if any, is heard
pub record ViewSilence (v : Seen) (old new : Decoder) (turn : ViewTurn) : Type 0 where
  pub event : Option TerminalEvent
  pub means : SilenceMeans old new event
  pub hears : ViewHears v (option_to_list event) turn

-- the message `text` leads from an edit to a turn, and what the layer keeps is as it was
pub record ViewSays (v : SeenEditing) (text : List ℕ) (turn : ViewTurn) : Type 0 where
  pub middle : FrontTurn
  pub leads : MessageLeads v.beneath.beneath text (beneath_of middle)
  pub kept : middle ≡ front_of (beneath_of middle) v.beneath.query v.beneath.kept
  pub shown : IsShown v.pane middle turn

-- ---- errors

-- an allocation failed, or the event of the terminal ends the front with `error`
pub data HandFails (f : Front) (event : TerminalEvent) (error : RecordError) : Type 0 where
  hand_refused : error ≡ OutOfMemory → HandFails f event error
  hand_failed : KeysFail f (event ∷ []) error → HandFails f event error

-- the same of what a view hears
pub data HeardFails (v : Seen) (heard : Heard) (error : RecordError) : Type 0 where
  refused : error ≡ OutOfMemory → HeardFails v heard error
  failed : (event : TerminalEvent) → heard ≡ Hand event → HandFails v.front event error → HeardFails v heard error

-- one of the events fails, after the earlier ones led to a view that waits
pub record ViewFails (v : Seen) (events : List TerminalEvent) (error : RecordError) : Type 0 where
  -- the events before it, the event, and those that are dropped
  pub heard_first : List TerminalEvent
  pub event : TerminalEvent
  pub dropped : List TerminalEvent
  pub are : events ≡ heard_first ++ (event ∷ dropped)
  -- the view before the event
  pub last : Seen
  pub hears : ViewHears v heard_first (Waiting last)
  -- the event fails
  pub fails : HeardFails last (heard_by last event) error

-- bytes end the session with `error`: an allocation failed, or one of the events that they complete fails
pub data ViewBytesFail (v : Seen) (old new : Decoder) (bytes : List ℕ) (error : RecordError) : Type 0 where
  bytes_refused : error ≡ OutOfMemory → ViewBytesFail v old new bytes error
  bytes_failed : (found : List TerminalEvent) → Adds old new bytes [] found → ViewFails v found error → ViewBytesFail v old new bytes error

-- a silence ends the session with `error`: an allocation failed, or the event that it means fails
pub data ViewSilenceFails (v : Seen) (old new : Decoder) (error : RecordError) : Type 0 where
  silence_refused : error ≡ OutOfMemory → ViewSilenceFails v old new error
  silence_failed : (event : TerminalEvent) → SilenceMeans old new (Some event) → ViewFails v (event ∷ []) error → ViewSilenceFails v old new error

-- an allocation failed, or the message ends the session with `error`
pub data ViewSayFails (v : SeenEditing) (text : List ℕ) (error : RecordError) : Type 0 where
  say_refused : error ≡ OutOfMemory → ViewSayFails v text error
  say_failed : MessageFails v.beneath.beneath text error → ViewSayFails v text error

-- ---- sequences

-- the turn of the front
abbrev pub front_turn : ViewTurn → FrontTurn
front_turn (Waiting v) = fronts.Waiting v.front
front_turn (Editing editing) = fronts.Editing editing.beneath
front_turn (Accepted state) = fronts.Accepted state

-- an input of a program to a view
pub data ViewInput : Type 0 where
  -- `hear`, `hear_all`, `typed`, `idle`: the view hears events of a terminal
  Hear : List TerminalEvent → ViewInput
  -- `answer`, `keep`: hands in the message that was asked for
  Say : List ℕ → ViewInput
  -- `resize`: the terminal has another size
  Resize : Pane → ViewInput

-- the inputs lead from turn to turn, each by its contract
pub data ViewPath : ViewTurn → List ViewInput → ViewTurn → Type 0 where
  at_end : {turn : ViewTurn} → ViewPath turn [] turn
  by_hearing : {v : Seen} {heard : List TerminalEvent} {turn last : ViewTurn} {inputs : List ViewInput}
      → ViewHears v heard turn → ViewPath turn inputs last → ViewPath (Waiting v) (Hear heard ∷ inputs) last
  by_answer : {editing : SeenEditing} {text : List ℕ} {turn last : ViewTurn} {inputs : List ViewInput}
      → ViewSays editing text turn → ViewPath turn inputs last → ViewPath (Editing editing) (Say text ∷ inputs) last
  by_size : {v next : Seen} {pane : Pane} {last : ViewTurn} {inputs : List ViewInput}
      → IsFitted pane v.front next.front → next.pane ≡ pane → ViewPath (Waiting next) inputs last
      → ViewPath (Waiting v) (Resize pane ∷ inputs) last

-- some calls of the session beneath lead from turn to turn
pub record LeadsBy (turn last : ViewTurn) : Type 0 where
  pub calls : List Call
  pub path : Path (beneath_of (front_turn turn)) calls (beneath_of (front_turn last))
