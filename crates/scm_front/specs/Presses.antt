-- Lists of events that a live session handles one after another.
use Rattle.std.specs.Prelude.{◌≡◌, IsTrue, List, [], ◌∷◌, ◌++◌}
use Rattle.scm_errors.specs.declared.error.RecordError.{RecordError}
use Rattle.scm_input.specs.declared.events.Event.{Event}
use Rattle.scm_record.specs.Live.{Live}
use Rattle.scm_record.specs.LiveCalls.{Call, Press, Path, EventFails}
use Rattle.scm_record.specs.Typed.{is_waiting}
use Rattle.scm_record.specs.declared.live.Turn.{Turn}
use Rattle.scm_record.specs.declared.live.Turn.TheVariants.{Waiting}

-- the calls that hand in the events, in order
abbrev pub calls_of : List Event → List Call
calls_of [] = []
calls_of (event ∷ events) = Press event ∷ calls_of events

-- The events are handed in in order, up to the first that ends the session or asks for a message. Later events are dropped.
pub record PressesLead (l : Live) (events : List Event) (turn : Turn) : Type 0 where
  -- the events that are handed in, and those that are dropped
  pub handled : List Event
  pub dropped : List Event
  pub are : events ≡ handled ++ dropped
  -- the handed-in events lead to the turn
  pub path : Path (Waiting l) (calls_of handled) turn
  -- if the session still waits for an event, none is dropped
  pub all : IsTrue (is_waiting turn) → dropped ≡ []

-- one of the events ends the session with `error`, after the earlier ones led to a session that waits
pub record PressesFail (l : Live) (events : List Event) (error : RecordError) : Type 0 where
  -- the events before it, the event, and those that are dropped
  pub handled : List Event
  pub event : Event
  pub dropped : List Event
  pub are : events ≡ handled ++ (event ∷ dropped)
  -- the session before the event
  pub last : Live
  pub path : Path (Waiting l) (calls_of handled) (Waiting last)
  -- the event ends it
  pub fails : EventFails last event error
