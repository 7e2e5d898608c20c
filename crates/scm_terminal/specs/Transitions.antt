-- The state machine of the decoder: the transition of each byte in each state of a token.
use Rattle.std.specs.Prelude.{ℕ, ◌-◌, Bool, true, false, ◌==◌, nat_le, nat_lt, Option, Some, None, if◌then◌else◌}
use Rattle.scm_input.specs.declared.terminal.TerminalEvent.TheVariants as terminal
use Rattle.scm_terminal.specs.declared.characters.Character.{Character}
use Rattle.scm_terminal.specs.declared.characters.CharacterProgress.{CharacterProgress}
use Rattle.scm_terminal.specs.declared.characters.CharacterProgress.TheVariants.{Whole, Part}
use Rattle.scm_terminal.specs.declared.sequences.Sequence.{Sequence}
use Rattle.scm_terminal.specs.declared.sequences.SequenceKind.TheVariants.{Csi, Ss3}
use Rattle.scm_terminal.specs.declared.tokens.Token.TheVariants.{Event}
use Rattle.scm_terminal.specs.declared.transitions.State.{State}
use Rattle.scm_terminal.specs.declared.transitions.State.TheVariants as state
use Rattle.scm_terminal.specs.declared.transitions.Transition.{Transition}
use Rattle.scm_terminal.specs.declared.transitions.Transition.TheVariants.{Continue, Emit, EmitAndRetry}
use Rattle.scm_terminal.specs.declared.transitions.SilenceEffect.{SilenceEffect}
use Rattle.scm_terminal.specs.declared.transitions.SilenceEffect.TheVariants.{Keep, EndEscape, Drop}
use Rattle.scm_terminal.specs.Bytes.{escape, bracket, capital_o, backslash, bell, space, begins_sequence, begins_control_string, is_continuation, is_final, is_parameter}
use Rattle.scm_terminal.specs.ByteKeys.{byte_key}
use Rattle.scm_terminal.specs.Sequences.{unrecognized_token, new_sequence, with_parameter, token_of, trailing_bytes}
use Rattle.scm_terminal.specs.Characters.{lead_character, with_continuation}
use Rattle.scm_terminal.specs.Streams.{escape_key}

-- the transition of a lead byte: its unfinished character, or unrecognized without one
abbrev pub lead_transition : Option Character → Transition
lead_transition None = Emit unrecognized_token
lead_transition (Some c) = Continue (state.Character c)

-- the transition of the first byte `b` of a key or character, which is no escape; `alt` is whether
-- an escape preceded it
abbrev pub start_transition : Bool → ℕ → Transition
start_transition alt b =
    if nat_lt b 128 then Emit (Event (terminal.Key (byte_key alt b)))
    else lead_transition (lead_character alt b)

-- the transition of byte `b` between tokens
abbrev pub ground_transition : ℕ → Transition
ground_transition b = if b == escape then Continue state.Escape else start_transition false b

-- the transition of byte `b` after an escape
abbrev pub escape_transition : ℕ → Transition
escape_transition b =
    if b == escape then EmitAndRetry escape_key
    else if b == bracket then Continue (state.Sequence (new_sequence Csi))
    else if b == capital_o then Continue (state.Sequence (new_sequence Ss3))
    else if b == backslash then Emit unrecognized_token
    else if begins_control_string b then Continue state.StringBegun
    else start_transition true b

-- the transition of byte `b` after an escape that a silence has made the Esc key: `[` or `O`
-- continues the escape's sequence, any other byte begins a token
abbrev pub ended_escape_transition : ℕ → Transition
ended_escape_transition b = if begins_sequence b then escape_transition b else ground_transition b

-- the transition of the final byte `b` of the sequence `q`
abbrev pub final_transition : Sequence → ℕ → Transition
final_transition q b =
    if trailing_bytes q b == 0 then Emit (token_of q b)
    else Continue (state.Trailing (trailing_bytes q b))

-- the transition of byte `b` within the sequence `q`
abbrev pub sequence_transition : Sequence → ℕ → Transition
sequence_transition q b =
    if is_parameter b then Continue (state.Sequence (with_parameter q b))
    else if is_final b then final_transition q b
    else EmitAndRetry unrecognized_token

-- the transition of byte `b` after the final byte of a sequence, with `left` bytes missing
abbrev pub trailing_transition : ℕ → ℕ → Transition
trailing_transition left b =
    if nat_lt b space then EmitAndRetry unrecognized_token
    else if nat_le left 1 then Emit unrecognized_token
    else Continue (state.Trailing (left - 1))

-- the transition of a continuation byte, by its outcome
abbrev pub progress_transition : CharacterProgress → Transition
progress_transition (Whole token) = Emit token
progress_transition (Part c) = Continue (state.Character c)

-- the transition of byte `b` within the character `c`
abbrev pub character_transition : Character → ℕ → Transition
character_transition c b =
    if is_continuation b then progress_transition (with_continuation c b)
    else EmitAndRetry unrecognized_token

-- the transition of byte `b` within a control string: a bell ends it, as in xterm; any other C0
-- control ends it before that byte
abbrev pub control_string_transition : ℕ → Transition
control_string_transition b =
    if b == bell then Emit unrecognized_token
    else if nat_lt b space then EmitAndRetry unrecognized_token
    else Continue state.ControlString

-- the transition of byte `b` in a state
unfoldable pub transition_of : State → ℕ → Transition
transition_of state.Ground b = ground_transition b
transition_of state.Escape b = escape_transition b
transition_of state.EndedEscape b = ended_escape_transition b
transition_of (state.Sequence q) b = sequence_transition q b
transition_of (state.Trailing left) b = trailing_transition left b
transition_of (state.Character c) b = character_transition c b
transition_of state.StringBegun b = control_string_transition b
transition_of state.ControlString b = control_string_transition b

-- the effect of a silence on the unfinished token in a state
abbrev pub effect_of_silence : State → SilenceEffect
effect_of_silence state.Ground = Keep
effect_of_silence state.Escape = EndEscape
effect_of_silence state.EndedEscape = Keep
effect_of_silence (state.Sequence q) = Keep
effect_of_silence (state.Trailing left) = Keep
effect_of_silence (state.Character c) = Keep
effect_of_silence state.StringBegun = Drop
effect_of_silence state.ControlString = Keep
