-- A stream of bytes and silences of the terminal. A burst is the bytes between two silences. A
-- silence within a sequence does not end it: a slow line may tear it there.
use Rattle.std.specs.Prelude.{ℕ, ◌++◌, Bool, true, false, ◌&&◌, ◌==◌, List, [], ◌∷◌, Option, Some, None, option_to_list, if◌then◌else◌}
use Rattle.scm_input.specs.KeyTable.{none, control, char}
use Rattle.scm_input.specs.declared.terminal.KeyCode.{KeyCode}
use Rattle.scm_input.specs.declared.terminal.KeyCode.TheVariants as key
use Rattle.scm_input.specs.declared.terminal.KeyModifiers.{KeyModifiers}
use Rattle.scm_input.specs.declared.terminal.KeyEventKind.TheVariants.{Press}
use Rattle.scm_input.specs.declared.terminal.TerminalEvent.{TerminalEvent}
use Rattle.scm_input.specs.declared.terminal.TerminalEvent.TheVariants as terminal
use Rattle.scm_terminal.specs.declared.transitions.SilenceEffect.{SilenceEffect}
use Rattle.scm_terminal.specs.declared.transitions.SilenceEffect.TheVariants.{Keep, EndEscape, Drop}
use Rattle.scm_terminal.specs.Bytes.{escape, interrupt, begins_sequence, begins_control_string}
use Rattle.scm_terminal.specs.Streams.{stream_events, is_pasted_after, rest}

-- ---- a burst

-- what stands before a burst
pub data Start : Type 0 where
  -- the bytes of an unfinished token, perhaps none; the burst begins within a paste if the truth
  -- value says so
  Waiting : Bool → List ℕ → Start
  -- an escape that the silence made the Esc key, outside of a paste
  AfterEscape : Start

-- nothing
abbrev pub at_first : Start
at_first = Waiting false []

-- whether a burst begins within a paste
abbrev pub is_pasted_at : Start → Bool
is_pasted_at (Waiting is_pasted waiting) = is_pasted
is_pasted_at AfterEscape = false

-- whether the bytes go on with the sequence of an escape before them: `[` or `O` does, neither of
-- which is a key of the key table
abbrev pub goes_on : List ℕ → Bool
goes_on [] = false
goes_on (b ∷ bs) = begins_sequence b

-- the bytes as which a burst is read: with those of the unfinished token in front, and with the
-- escape whose sequence it goes on with
abbrev pub read_as : Start → List ℕ → List ℕ
read_as (Waiting is_pasted waiting) bytes = waiting ++ bytes
read_as AfterEscape bytes = if goes_on bytes then escape ∷ bytes else bytes

-- the events of a burst
abbrev pub events_from : Start → List ℕ → List TerminalEvent
events_from start bytes = stream_events (is_pasted_at start) (read_as start bytes)

-- whether a burst ends within a paste
abbrev pub is_pasted_from : Start → List ℕ → Bool
is_pasted_from start bytes = is_pasted_after (is_pasted_at start) (read_as start bytes)

-- the bytes of the unfinished token at the end of a burst
abbrev pub rest_from : Start → List ℕ → List ℕ
rest_from start bytes = rest (read_as start bytes)

-- ---- a silence

-- what a silence makes of the bytes of an unfinished token outside of a paste: a lone escape is the
-- Esc key, an escape with the byte that begins a control string is a key that is not recognized,
-- and anything else stays unfinished
abbrev pub effect_on : List ℕ → SilenceEffect
effect_on [] = Keep
effect_on (b ∷ []) = if b == escape then EndEscape else Keep
effect_on (b ∷ c ∷ []) = if b == escape && begins_control_string c then Drop else Keep
effect_on (b ∷ c ∷ d ∷ bs) = Keep

-- the event of a key that is pressed with modifiers
abbrev pub press : KeyModifiers → KeyCode → TerminalEvent
press modifiers code = terminal.Key (record { code = code; modifiers = modifiers; kind = Press })

-- the event of the Esc key
abbrev pub escape_event : TerminalEvent
escape_event = press none key.Esc

-- the event of Ctrl-C
abbrev pub interrupt_event : TerminalEvent
interrupt_event = press control (char "c")

-- the event of a silence with an effect
abbrev pub event_of_effect : SilenceEffect → Option TerminalEvent
event_of_effect Keep = None
event_of_effect EndEscape = Some escape_event
event_of_effect Drop = Some terminal.Other

-- whether a burst is the byte of Ctrl-C alone; within a paste, the silence after it ends the paste,
-- whose end mark may be lost
abbrev pub is_interrupt : List ℕ → Bool
is_interrupt [] = false
is_interrupt (b ∷ []) = b == interrupt
is_interrupt (b ∷ c ∷ bs) = false

-- the event of the silence after a burst, if any
abbrev pub idle_event : Start → List ℕ → Option TerminalEvent
idle_event start bytes =
    if is_pasted_from start bytes then (if is_interrupt bytes then Some interrupt_event else None)
    else event_of_effect (effect_on (rest_from start bytes))

-- what stays before the next burst, outside of a paste and if the silence ends nothing
abbrev pub kept : Start → List ℕ → Start
kept (Waiting is_pasted waiting) bytes = Waiting false (rest (waiting ++ bytes))
kept AfterEscape [] = AfterEscape
kept AfterEscape (b ∷ bs) = Waiting false (rest (read_as AfterEscape (b ∷ bs)))

-- what stands before the next burst outside of a paste, by the effect of the silence
abbrev pub after_effect : SilenceEffect → Start → List ℕ → Start
after_effect Keep start bytes = kept start bytes
after_effect EndEscape start bytes = AfterEscape
after_effect Drop start bytes = at_first

-- what stands before the next burst
abbrev pub after_silence : Start → List ℕ → Start
after_silence start bytes =
    if is_pasted_from start bytes then (
    if is_interrupt bytes then at_first else Waiting true (rest_from start bytes))
    else after_effect (effect_on (rest_from start bytes)) start bytes

-- ---- many bursts

-- the events of bursts, each with a silence after it
abbrev pub burst_events : Start → List (List ℕ) → List TerminalEvent
burst_events start [] = []
burst_events start (bytes ∷ bursts) =
    events_from start bytes
    ++ (option_to_list (idle_event start bytes) ++ burst_events (after_silence start bytes) bursts)

-- what stands after bursts, each with a silence after it
abbrev pub after_bursts : Start → List (List ℕ) → Start
after_bursts start [] = start
after_bursts start (bytes ∷ bursts) = after_bursts (after_silence start bytes) bursts

-- the bytes of bursts, in order
abbrev pub bytes_of_bursts : List (List ℕ) → List ℕ
bytes_of_bursts [] = []
bytes_of_bursts (bytes ∷ bursts) = bytes ++ bytes_of_bursts bursts
