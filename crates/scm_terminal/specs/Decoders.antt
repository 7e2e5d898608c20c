-- The decoder: its step at each byte, the bytes that it has read, and the events that it returns.
use Rattle.std.specs.Prelude.{◌≡◌, ℕ, Bool, false, List, [], ◌++◌, ◌==◌, Option, Some, None, fold, option_to_list, if◌then◌else◌}
use Rattle.scm_input.specs.declared.terminal.TerminalEvent.{TerminalEvent}
use Rattle.scm_terminal.specs.declared.decoder.Decoder.{Decoder}
use Rattle.scm_terminal.specs.declared.decoder.EventPair.{EventPair}
use Rattle.scm_terminal.specs.declared.transitions.Transition.{Transition}
use Rattle.scm_terminal.specs.declared.transitions.Transition.TheVariants.{Continue, Emit, EmitAndRetry}
use Rattle.scm_terminal.specs.declared.transitions.State.{State}
use Rattle.scm_terminal.specs.declared.transitions.State.TheVariants as state
use Rattle.scm_terminal.specs.declared.decoder.Burst.{Burst}
use Rattle.scm_terminal.specs.declared.decoder.Burst.TheVariants as burst
use Rattle.scm_terminal.specs.declared.tokenizer.Tokenizer.{Tokenizer}
use Rattle.scm_terminal.specs.Bytes.{interrupt}
use Rattle.scm_terminal.specs.Streams.{token_event, pasted_after}
use Rattle.scm_terminal.specs.Silences.{Start, Waiting, AfterEscape, events_from, idle_event, after_silence}
use Rattle.scm_terminal.specs.Transitions.{ground_transition, transition_of}

-- a tokenizer by its two fields
abbrev pub tokenizer : Bool → State → Tokenizer
tokenizer is_pasted waiting = record { is_pasted = is_pasted; state = waiting }

-- a tokenizer that has read no bytes
abbrev pub new_tokenizer : Tokenizer
new_tokenizer = tokenizer false state.Ground

-- the events of a pair, in order
abbrev pub events_of : EventPair → List TerminalEvent
events_of pair = option_to_list pair.first ++ option_to_list pair.second

-- a pair by its two fields
abbrev pub event_pair : Option TerminalEvent → Option TerminalEvent → EventPair
event_pair first second = record { first = first; second = second }

-- ---- one byte

-- the outcome of one byte
pub record Step : Type 0 where
  -- the events that the byte completes
  pub events : EventPair
  -- the tokenizer after the byte
  pub tokenizer : Tokenizer

-- a step by its events and the fields of its tokenizer
abbrev pub step_to : Option TerminalEvent → Option TerminalEvent → Bool → State → Step
step_to first second is_pasted waiting =
    record { events = event_pair first second; tokenizer = tokenizer is_pasted waiting }

-- the step of a byte that ended a token before it, with `event`; the transition is that of the byte
-- as the first of the next token
abbrev pub step_retry : TerminalEvent → Bool → Transition → Step
step_retry event is_pasted (Continue s) = step_to (Some event) None is_pasted s
step_retry event is_pasted (Emit token) =
    step_to (Some event) (Some (token_event is_pasted token))
    (pasted_after is_pasted token) state.Ground
step_retry event is_pasted (EmitAndRetry token) =
    step_to (Some event) (Some (token_event is_pasted token))
    (pasted_after is_pasted token) state.Ground

-- the step of byte `b` with a transition
abbrev pub step_by : Bool → ℕ → Transition → Step
step_by is_pasted b (Continue s) = step_to None None is_pasted s
step_by is_pasted b (Emit token) =
    step_to (Some (token_event is_pasted token)) None (pasted_after is_pasted token) state.Ground
step_by is_pasted b (EmitAndRetry token) =
    step_retry (token_event is_pasted token) (pasted_after is_pasted token) (ground_transition b)

-- the step of the tokenizer `t` at byte `b`
unfoldable pub step : Tokenizer → ℕ → Step
step t b = step_by t.is_pasted b (transition_of t.state b)

-- the tokenizer `t` after byte `b`
abbrev pub hears : Tokenizer → ℕ → Tokenizer
hears t b = (step t b).tokenizer

-- ---- the bytes that a decoder has read

-- a decoder by its two fields
abbrev pub decoder : Tokenizer → Burst → Decoder
decoder tokens bytes = record { tokenizer = tokens; burst = bytes }

-- the burst `bytes` with byte `b` after it
abbrev pub burst_after : Burst → ℕ → Burst
burst_after burst.Empty b = if b == interrupt then burst.Interrupt else burst.Other
burst_after burst.Interrupt b = burst.Other
burst_after burst.Other b = burst.Other

-- the decoder `d` after byte `b`
abbrev pub next : Decoder → ℕ → Decoder
next d b = decoder (hears d.tokenizer b) (burst_after d.burst b)

-- the decoder before a burst
abbrev pub begun : Start → Decoder
begun (Waiting is_pasted waiting) =
    decoder (fold hears (tokenizer is_pasted state.Ground) waiting) burst.Empty
begun AfterEscape = decoder (tokenizer false state.EndedEscape) burst.Empty

-- the decoder `d` has read `bytes` since `start`: since it was new, or since the last silence
unfoldable pub HasRead : Decoder → Start → List ℕ → Type 0
HasRead d start bytes = d ≡ fold next (begun start) bytes

-- the decoder `d` has read `bytes` and no silence; `is_pasted` is whether they began within a paste
abbrev pub HasHeard : Decoder → Bool → List ℕ → Type 0
HasHeard d is_pasted bytes = HasRead d (Waiting is_pasted []) bytes

-- the decoder `new` is that after `bytes` and then `more`, which completes the events `found`
pub record Hears (new : Decoder) (more : List ℕ) (found : List TerminalEvent) (start : Start)
    (bytes : List ℕ) : Type 0 where
  -- it has read both
  pub heard : HasRead new start (bytes ++ more)
  -- `found` are the events that the longer burst has beyond those of the shorter one
  pub events : events_from start (bytes ++ more) ≡ events_from start bytes ++ found

-- the decoder `old` becomes `new` by the bytes `more`, and their events are appended to `before`
pub record Adds (old new : Decoder) (more : List ℕ) (before after : List TerminalEvent)
    : Type 0 where
  -- the events that `more` completes
  pub found : List TerminalEvent
  -- they are appended
  pub is : after ≡ before ++ found
  -- whatever `old` has read, `new` has read `more` after it
  pub hears : (start : Start) (bytes : List ℕ) → HasRead old start bytes
      → Hears new more found start bytes

-- `before` is a prefix of `after`
abbrev pub IsFront : List TerminalEvent → List TerminalEvent → Type 0
IsFront before after = (more : List TerminalEvent) × (after ≡ before ++ more)

-- ---- silence

-- the decoder `new` is that after `bytes` and then a silence with the event `found`, if any
pub record Rests (new : Decoder) (found : Option TerminalEvent) (start : Start) (bytes : List ℕ)
    : Type 0 where
  -- the event is that of the silence
  pub event : found ≡ idle_event start bytes
  -- the next burst begins
  pub heard : HasRead new (after_silence start bytes) []
