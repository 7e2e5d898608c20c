-- What silences do to a sequence that they tear, and to a paste: the laws of bursts.
use Rattle.std.specs.Prelude.{◌≡◌, ◌⊎◌, ℕ, Bool, true, false, ◌==◌, List, [], ◌∷◌, Some, None, if◌then◌else◌}
use Rattle.std.specs.List.{AllZip}
use Rattle.scm_input.specs.KeyTable.{KeyRow, key_table, control, char}
use Rattle.scm_input.specs.declared.terminal.TerminalEvent.{TerminalEvent}
use Rattle.scm_terminal.specs.declared.tokens.Token.TheVariants.{Event}
use Rattle.scm_terminal.specs.Bytes.{escape, interrupt, begins_sequence}
use Rattle.scm_terminal.specs.Streams.{split, AreOther}
use Rattle.scm_terminal.specs.Silences.{Start, Waiting, at_first, is_pasted_at, events_from, idle_event, after_silence, is_interrupt, burst_events, after_bursts, bytes_of_bursts, escape_event, press}
use Rattle.scm_terminal.specs.KeyBytes.{key_bytes}

-- ---- sequences

-- the bytes are one token, with an event
abbrev pub IsToken : List ℕ → TerminalEvent → Type 0
IsToken bytes event = split bytes ≡ record { tokens = Event event ∷ []; rest = [] }

-- the event comes once, perhaps behind the Esc key: so no part of its bytes is taken for a key
abbrev pub ComesOnce : TerminalEvent → List TerminalEvent → Type 0
ComesOnce event events = (events ≡ event ∷ []) ⊎ (events ≡ escape_event ∷ event ∷ [])

-- the bytes have this event however silences tear them
abbrev pub SurvivesTearing : List ℕ → TerminalEvent → Type 0
SurvivesTearing bytes event = (bursts : List (List ℕ)) → bytes_of_bursts bursts ≡ bytes
    → ComesOnce event (burst_events at_first bursts)

-- whether the bytes are an escape sequence with parameters, CSI or SS3
abbrev pub is_sequence : List ℕ → Bool
is_sequence [] = false
is_sequence (b ∷ []) = false
is_sequence (b ∷ c ∷ bs) = if b == escape then begins_sequence c else false

-- if the bytes of the row are a sequence, it is the key of the row however silences tear it
abbrev pub IsTorn : KeyRow → List ℕ → Type 0
IsTorn row bytes = is_sequence bytes ≡ true → SurvivesTearing bytes (press row.modifiers row.code)

-- the sequences of the key table survive tearing
abbrev pub AreTorn : Type 0
AreTorn = AllZip IsTorn key_table key_bytes

-- ---- pastes

-- after the start, ctrl-c alone between two silences is the key, and ends a paste
pub record IsFreed (start : Start) : Type 0 where
  -- its byte is no key before the silence
  pub quiet : AreOther (events_from start (interrupt ∷ []))
  -- the silence makes it the key
  pub event : idle_event start (interrupt ∷ []) ≡ Some (press control (char "c"))
  -- the next burst is as in a new decoder
  pub after : after_silence start (interrupt ∷ []) ≡ at_first

-- none of the bursts is ctrl-c alone
abbrev pub HaveNoInterrupt : List (List ℕ) → Type 0
HaveNoInterrupt [] = Unit {0}
HaveNoInterrupt (bytes ∷ bursts) = (is_interrupt bytes ≡ false) × HaveNoInterrupt bursts

-- the bursts stay within a bracketed paste: nothing acts on them, and the paste goes on after them
pub record StayPastedTorn (bursts : List (List ℕ)) : Type 0 where
  -- their events are `Other`
  pub quiet : AreOther (burst_events (Waiting true []) bursts)
  -- the paste has not ended
  pub goes_on : is_pasted_at (after_bursts (Waiting true []) bursts) ≡ true

-- a second silence changes nothing
pub record IsSilent (start : Start) : Type 0 where
  pub event : idle_event start [] ≡ None
  pub after : after_silence start [] ≡ start
