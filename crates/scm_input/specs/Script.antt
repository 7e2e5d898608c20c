-- The script of an input: its reads and its replies to messages.
use Rattle.std.specs.Prelude.{◌≡◌, ℕ, List, [], ◌∷◌, Result, Ok, Err, Option, Some, None, option_map, String, string_bytes, Vec, codes}
use Rattle.std.specs.declared.alloc.Global.{Global}
use Rattle.scm_errors.specs.declared.error.RecordError.{RecordError}
use Rattle.scm_errors.specs.Fault.{Fault, Other, ReadInput, fault_of}
use Rattle.scm_input.specs.declared.events.Event.{Event}

-- the result of a read: a batch of events, or a fault
pub data Read : Type 0 where
  Batch : List Event → Read
  BrokenRead : Fault → Read

-- the result of an edit: a text, or a fault
pub data Edit : Type 0 where
  Answer : List ℕ → Edit
  BrokenEdit : Fault → Edit

-- the result of an edit for each message that can be edited
abbrev pub Reply : Type 0
Reply = List ℕ → Edit

-- the reply with the same result for every message
abbrev pub always : Edit → Reply
always edit = λ message. edit

-- the result of a read from what the call returned, or `None` if an allocation failed
abbrev pub read_of : Result (Vec Event Global) RecordError → Option Read
read_of (Ok events) = Some (Batch events.items)
read_of (Err error) = option_map BrokenRead (fault_of error)

-- the result of an edit from what the call returned, or `None` if an allocation failed
abbrev pub edit_of : Result (String Global) RecordError → Option Edit
edit_of (Ok text) = Some (Answer (string_bytes text))
edit_of (Err error) = option_map BrokenEdit (fault_of error)

-- A result is the first of the list, and is removed. After an allocation failure the list is unchanged.
abbrev pub Takes : {A : Type 0} → Option A → List A → List A → Type 0
Takes None old new = new ≡ old
Takes (Some answer) [] new = new ≡ []
Takes (Some answer) (first ∷ rest) new = (answer ≡ first) × (new ≡ rest)

-- the same, where the result is `past` if the list is empty
abbrev pub TakesOr : {A : Type 0} → A → Option A → List A → List A → Type 0
TakesOr past None old new = new ≡ old
TakesOr past (Some answer) [] new = (answer ≡ past) × (new ≡ [])
TakesOr past (Some answer) (first ∷ rest) new = (answer ≡ first) × (new ≡ rest)

-- the fault of a read if no reads are left
abbrev pub no_events_left : Fault
no_events_left = ReadInput (codes "no events left")

-- the result of an edit if no edits are left
abbrev pub no_messages_left : Edit
no_messages_left = BrokenEdit (Other (codes "No more commit messages available"))

-- An edit removes the first reply and applies it to the message. If no replies are left, it is
-- `no_messages_left`. After an allocation failure the replies are unchanged.
abbrev pub Replies : List ℕ → Option Edit → List Reply → List Reply → Type 0
Replies message None old new = new ≡ old
Replies message (Some edit) [] new = (edit ≡ no_messages_left) × (new ≡ [])
Replies message (Some edit) (reply ∷ rest) new = (edit ≡ reply message) × (new ≡ rest)
