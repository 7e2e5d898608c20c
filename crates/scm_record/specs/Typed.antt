-- A live session that is driven by bytes and silences of a terminal: the events that they mean are handed in, one by one.
use Rattle.std.specs.Prelude.{◌≡◌, ℕ, Bool, true, false, IsTrue, List, [], ◌∷◌, ◌++◌, Option, option_to_list}
use Rattle.scm_errors.specs.declared.error.RecordError.{RecordError}
use Rattle.scm_errors.specs.declared.error.RecordError.TheVariants.{OutOfMemory}
use Rattle.scm_input.specs.KeyTable.{event_of}
use Rattle.scm_input.specs.declared.inputs.TerminalKind.{TerminalKind}
use Rattle.scm_input.specs.declared.terminal.TerminalEvent.{TerminalEvent}
use Rattle.scm_terminal.specs.declared.decoder.Decoder.{Decoder}
use Rattle.scm_terminal.specs.Decoders.{Adds, HasRead, Rests}
use Rattle.scm_terminal.specs.Silences.{Start, events_from, idle_event, after_silence}
use Rattle.scm_record.specs.Live.{Live, LiveEdit, on_screen}
use Rattle.scm_record.specs.LiveCalls.{Call, Press, Say, Resize, Path, EventFails, MessageLeads}
use Rattle.scm_record.specs.declared.live.Turn.{Turn}
use Rattle.scm_record.specs.declared.live.Turn.TheVariants.{Waiting, Editing, Accepted}

-- the calls that hand in the terminal events, in order
abbrev pub presses : List TerminalEvent → List Call
presses [] = []
presses (event ∷ events) = Press (event_of event) ∷ presses events

-- whether the session of the turn waits for an event
abbrev pub is_waiting : Turn → Bool
is_waiting (Waiting l) = true
is_waiting (Editing a) = false
is_waiting (Accepted state) = false

-- The events are handed in in order, up to the first that ends the session or asks for a message. Later events are dropped: they
-- were typed at a screen that is gone.
pub record HandsIn (l : Live) (events : List TerminalEvent) (turn : Turn) : Type 0 where
  -- the events that are handed in, and those that are dropped
  pub handled : List TerminalEvent
  pub dropped : List TerminalEvent
  pub are : events ≡ handled ++ dropped
  -- the handed-in events lead to the turn
  pub path : Path (Waiting l) (presses handled) turn
  -- if the session still waits for an event, none is dropped
  pub all : IsTrue (is_waiting turn) → dropped ≡ []

-- one of the events ends the session with `error`, after the earlier ones led to a session that waits
pub record FailsAmong (l : Live) (events : List TerminalEvent) (error : RecordError) : Type 0 where
  -- the events before it, the event, and those that are dropped
  pub handled : List TerminalEvent
  pub event : TerminalEvent
  pub dropped : List TerminalEvent
  pub are : events ≡ handled ++ (event ∷ dropped)
  -- the session before the event
  pub last : Live
  pub path : Path (Waiting l) (presses handled) (Waiting last)
  -- the event ends it
  pub fails : EventFails last (event_of event) error

-- ---- bytes

-- bytes lead to a turn: the decoder reads them all, and the events that it finds are handed in
pub record BytesLead (l : Live) (old new : Decoder) (bytes : List ℕ) (turn : Turn) : Type 0 where
  -- the events that the decoder finds
  pub events : List TerminalEvent
  pub hears : Adds old new bytes [] events
  -- they are handed in
  pub hands_in : HandsIn l events turn

-- bytes end a session with `error`: an allocation of the decoder failed and left it unchanged, or one of the events fails
pub data BytesFail (l : Live) (old new : Decoder) (bytes : List ℕ) (error : RecordError) : Type 0 where
  refused : error ≡ OutOfMemory → new ≡ old → BytesFail l old new bytes error
  failed : (events : List TerminalEvent) → Adds old new bytes [] events → FailsAmong l events error
      → BytesFail l old new bytes error

-- ---- silence

-- the terminal was silent: `event` is what the silence means after the bytes that the decoder has read
abbrev pub SilenceMeans : Decoder → Decoder → Option TerminalEvent → Type 0
SilenceMeans old new event = (start : Start) (bytes : List ℕ) → HasRead old start bytes → Rests new event start bytes

-- a silence leads to a turn: the event that it means, if any, is handed in
pub record SilenceLeads (l : Live) (old new : Decoder) (turn : Turn) : Type 0 where
  -- the event that the silence means, if any
  pub event : Option TerminalEvent
  pub tells : SilenceMeans old new event
  pub hands_in : HandsIn l (option_to_list event) turn

-- a silence ends a session with `error`: the event that it means fails
pub record SilenceFails (l : Live) (old new : Decoder) (error : RecordError) : Type 0 where
  -- the event that the silence means, if any
  pub event : Option TerminalEvent
  pub tells : SilenceMeans old new event
  pub fails : FailsAmong l (option_to_list event) error

-- ---- sequences of inputs

-- an input of a program to a live session and a decoder
pub data Input : Type 0 where
  -- `typed`: hands in bytes that the terminal sent
  Bytes : List ℕ → Input
  -- `idle`: hands in a silence of the terminal
  Silence : Input
  -- `answer`: hands in the message that was asked for
  Message : List ℕ → Input
  -- `resize`: continues on another screen
  Screen : TerminalKind → Input

-- the inputs lead from turn to turn, each by its contract, and make these calls; the decoder keeps its state between them
pub data InputPath : Decoder → Turn → List Input → List Call → Turn → Type 0 where
  at_end : {decoder : Decoder} {turn : Turn} → InputPath decoder turn [] [] turn
  by_bytes : {l : Live} {old new : Decoder} {sent : List ℕ} {turn last : Turn} {inputs : List Input} {calls : List Call}
      → (leads : BytesLead l old new sent turn) → InputPath new turn inputs calls last
      → InputPath old (Waiting l) (Bytes sent ∷ inputs) (presses leads.hands_in.handled ++ calls) last
  by_silence : {l : Live} {old new : Decoder} {turn last : Turn} {inputs : List Input} {calls : List Call}
      → (leads : SilenceLeads l old new turn) → InputPath new turn inputs calls last
      → InputPath old (Waiting l) (Silence ∷ inputs) (presses leads.hands_in.handled ++ calls) last
  by_message : {a : LiveEdit} {text : List ℕ} {decoder : Decoder} {turn last : Turn} {inputs : List Input} {calls : List Call}
      → MessageLeads a text turn → InputPath decoder turn inputs calls last
      → InputPath decoder (Editing a) (Message text ∷ inputs) (Say text ∷ calls) last
  by_screen : {l : Live} {kind : TerminalKind} {decoder : Decoder} {last : Turn} {inputs : List Input} {calls : List Call}
      → InputPath decoder (Waiting (on_screen l kind)) inputs calls last
      → InputPath decoder (Waiting l) (Screen kind ∷ inputs) (Resize kind ∷ calls) last

-- the bytes of all chunks, in order
abbrev pub all_bytes : List (List ℕ) → List ℕ
all_bytes [] = []
all_bytes (chunk ∷ chunks) = chunk ++ all_bytes chunks

-- What inputs mean, if the decoder has read `heard` since `start`, since it was new or since a silence: each input hands in the events
-- that it adds to the decoded ones, or the first of them.
pub data InputsMean : Start → List ℕ → List Input → List Call → Type 0 where
  no_more : {start : Start} {heard : List ℕ} → InputsMean start heard [] []
  of_bytes : {start : Start} {heard sent : List ℕ} {inputs : List Input} {calls : List Call} (handled dropped : List TerminalEvent)
      → events_from start (heard ++ sent) ≡ events_from start heard ++ (handled ++ dropped)
      → InputsMean start (heard ++ sent) inputs calls
      → InputsMean start heard (Bytes sent ∷ inputs) (presses handled ++ calls)
  of_silence : {start : Start} {heard : List ℕ} {inputs : List Input} {calls : List Call} (handled dropped : List TerminalEvent)
      → option_to_list (idle_event start heard) ≡ handled ++ dropped
      → InputsMean (after_silence start heard) [] inputs calls
      → InputsMean start heard (Silence ∷ inputs) (presses handled ++ calls)
  of_message : {start : Start} {heard text : List ℕ} {inputs : List Input} {calls : List Call}
      → InputsMean start heard inputs calls → InputsMean start heard (Message text ∷ inputs) (Say text ∷ calls)
  of_screen : {start : Start} {heard : List ℕ} {kind : TerminalKind} {inputs : List Input} {calls : List Call}
      → InputsMean start heard inputs calls → InputsMean start heard (Screen kind ∷ inputs) (Resize kind ∷ calls)
