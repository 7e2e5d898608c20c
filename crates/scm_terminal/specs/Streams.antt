-- A stream of bytes, its tokens (keys, characters, escape sequences and control strings), and its
-- events. These definitions have no states: they look for the end of the first token.
use Rattle.std.specs.Prelude.{◌≡◌, ◌≢◌, ◌++◌, ℕ, zero, suc, ◌+◌, ◌-◌, Bool, true, false, ◌==◌, nat_le, nat_lt, List, [], ◌∷◌, Option, Some, None, fold, codes, if◌then◌else◌}
use Rattle.scm_input.specs.KeyTable.{none}
use Rattle.scm_input.specs.declared.terminal.KeyCode.TheVariants as key
use Rattle.scm_input.specs.declared.terminal.KeyEventKind.TheVariants.{Press}
use Rattle.scm_input.specs.declared.terminal.TerminalEvent.{TerminalEvent}
use Rattle.scm_input.specs.declared.terminal.TerminalEvent.TheVariants as terminal
use Rattle.scm_terminal.specs.declared.characters.Character.{Character}
use Rattle.scm_terminal.specs.declared.characters.CharacterProgress.TheVariants.{Whole, Part}
use Rattle.scm_terminal.specs.declared.sequences.Sequence.{Sequence}
use Rattle.scm_terminal.specs.declared.sequences.SequenceKind.TheVariants.{Csi, Ss3}
use Rattle.scm_terminal.specs.declared.tokens.Token.{Token}
use Rattle.scm_terminal.specs.declared.tokens.Token.TheVariants.{Event, PasteBegins, PasteEnds}
use Rattle.scm_terminal.specs.Bytes.{escape, bracket, capital_o, backslash, bell, space, begins_control_string, is_continuation, is_final, is_parameter}
use Rattle.scm_terminal.specs.ByteKeys.{byte_key}
use Rattle.scm_terminal.specs.Sequences.{unrecognized_token, new_sequence, with_parameter, token_of, trailing_bytes}
use Rattle.scm_terminal.specs.Characters.{lead_character, with_continuation}

-- ---- the first token of a stream

-- the first token of a stream
pub data Found : Type 0 where
  -- the first token has no end yet
  Unfinished : Found
  -- the token, and the number of its bytes after the first one
  Finished : Token → ℕ → Found

-- Below, `n` is the number of bytes between the first byte and the list. A byte that cannot
-- continue a token ends it: the token is unrecognized, and the byte begins the next token.

-- the token of the unfinished character `c` and the bytes after it
abbrev pub character : Character → ℕ → List ℕ → Found
character c n [] = Unfinished
character c n (b ∷ bs) =
    if is_continuation b then (
    elim (with_continuation c b) [
      | Whole token ↦ Finished token (n + 1)
      | Part d ↦ character d (n + 1) bs
    ])
    else Finished unrecognized_token n

-- the token of a lead byte, by its unfinished character, and the bytes after it
abbrev pub after_lead : Option Character → ℕ → List ℕ → Found
after_lead None n bs = Finished unrecognized_token n
after_lead (Some c) n bs = character c n bs

-- the token of the first byte `b`, which is no escape, and the bytes after it: a key of one byte,
-- or a character
abbrev pub after_start : Bool → ℕ → ℕ → List ℕ → Found
after_start alt n b bs =
    if nat_lt b 128 then Finished (Event (terminal.Key (byte_key alt b))) n
    else after_lead (lead_character alt b) n bs

-- the token of a sequence of which `left` bytes after its final byte are missing: any bytes but C0
-- controls
abbrev pub trailing : ℕ → ℕ → List ℕ → Found
trailing left n [] = Unfinished
trailing left n (b ∷ bs) =
    if nat_lt b space then Finished unrecognized_token n
    else if nat_le left 1 then Finished unrecognized_token (n + 1)
    else trailing (left - 1) (n + 1) bs

-- the token of the sequence `q` and the bytes after it: parameter bytes, and a final byte
abbrev pub sequence : Sequence → ℕ → List ℕ → Found
sequence q n [] = Unfinished
sequence q n (b ∷ bs) =
    if is_parameter b then sequence (with_parameter q b) (n + 1) bs
    else if is_final b then (
    if trailing_bytes q b == 0 then Finished (token_of q b) (n + 1)
    else trailing (trailing_bytes q b) (n + 1) bs)
    else Finished unrecognized_token n

-- The token of a control string. A bell ends it, as in xterm. Any other C0 control ends it before
-- that byte; a string terminator, `ESC \`, is a token by itself.
abbrev pub control_string : ℕ → List ℕ → Found
control_string n [] = Unfinished
control_string n (b ∷ bs) =
    if b == bell then Finished unrecognized_token (n + 1)
    else if nat_lt b space then Finished unrecognized_token n
    else control_string (n + 1) bs

-- the token of the Esc key
abbrev pub escape_key : Token
escape_key = Event (terminal.Key (record { code = key.Esc; modifiers = none; kind = Press }))

-- the token of an escape and the bytes after it: the Esc key before another escape, an escape
-- sequence, a string terminator, a control string, or a key or character with alt
abbrev pub after_escape : ℕ → List ℕ → Found
after_escape n [] = Unfinished
after_escape n (b ∷ bs) =
    if b == escape then Finished escape_key n
    else if b == bracket then sequence (new_sequence Csi) (n + 1) bs
    else if b == capital_o then sequence (new_sequence Ss3) (n + 1) bs
    else if b == backslash then Finished unrecognized_token (n + 1)
    else if begins_control_string b then control_string (n + 1) bs
    else after_start true (n + 1) b bs

-- the first token of a stream
unfoldable pub first : List ℕ → Found
first [] = Unfinished
first (b ∷ bs) = if b == escape then after_escape 0 bs else after_start false 0 b bs

-- ---- all tokens

-- a stream, cut into tokens
pub record Split : Type 0 where
  -- the tokens that end within the stream
  pub tokens : List Token
  -- the bytes of the unfinished token at its end
  pub rest : List ℕ

-- `split` with `token` in front
abbrev pub with_token : Token → Split → Split
with_token token split = record { tokens = token ∷ split.tokens; rest = split.rest }

-- a stream without its first `k` bytes, cut into tokens
unfoldable pub split_from : ℕ → List ℕ → Split
split_from k [] = record { tokens = []; rest = [] }
split_from (suc k) (b ∷ bs) = split_from k bs
split_from zero (b ∷ bs) =
    elim (first (b ∷ bs)) [
      | Unfinished ↦ record { tokens = []; rest = b ∷ bs }
      | Finished token n ↦ with_token token (split_from n bs)
    ]

-- a stream, cut into tokens
abbrev pub split : List ℕ → Split
split bytes = split_from 0 bytes

-- ---- events

-- the event of a token; within a bracketed paste, `is_pasted`, it is `Other`
abbrev pub token_event : Bool → Token → TerminalEvent
token_event is_pasted (Event event) = if is_pasted then terminal.Other else event
token_event is_pasted PasteBegins = terminal.Other
token_event is_pasted PasteEnds = terminal.Other

-- whether the bytes after a token are part of a bracketed paste
abbrev pub pasted_after : Bool → Token → Bool
pasted_after is_pasted (Event event) = is_pasted
pasted_after is_pasted PasteBegins = true
pasted_after is_pasted PasteEnds = false

-- the events of tokens, of which the first is within a paste if `is_pasted`
abbrev pub token_events : Bool → List Token → List TerminalEvent
token_events is_pasted [] = []
token_events is_pasted (token ∷ tokens) =
    token_event is_pasted token ∷ token_events (pasted_after is_pasted token) tokens

-- the events of a stream, which begins within a paste if `is_pasted`
abbrev pub stream_events : Bool → List ℕ → List TerminalEvent
stream_events is_pasted bytes = token_events is_pasted (split bytes).tokens

-- whether a stream ends within a paste, if it begins within one for `is_pasted`
abbrev pub is_pasted_after : Bool → List ℕ → Bool
is_pasted_after is_pasted bytes = fold pasted_after is_pasted (split bytes).tokens

-- the bytes of the unfinished token at the end of a stream
abbrev pub rest : List ℕ → List ℕ
rest bytes = (split bytes).rest

-- the stream `a ++ b` may be cut after `a`: decoding `a`, and then its unfinished token with `b`,
-- has the outcome of decoding the whole
pub record IsCut (is_pasted : Bool) (a b : List ℕ) : Type 0 where
  -- the events are the same
  pub events : stream_events is_pasted (a ++ b)
      ≡ stream_events is_pasted a ++ stream_events (is_pasted_after is_pasted a) (rest a ++ b)
  -- both end within a paste, or both do not
  pub pasted : is_pasted_after is_pasted (a ++ b)
      ≡ is_pasted_after (is_pasted_after is_pasted a) (rest a ++ b)
  -- the unfinished token is the same
  pub waits : rest (a ++ b) ≡ rest (rest a ++ b)

-- the start mark of a bracketed paste: `ESC [ 200 ~`
abbrev pub paste_begin : List ℕ
paste_begin = escape ∷ codes "[200~"

-- the end mark of a bracketed paste: `ESC [ 201 ~`
abbrev pub paste_end : List ℕ
paste_end = escape ∷ codes "[201~"

-- the end mark of a bracketed paste stands in the bytes
abbrev pub HasMark : List ℕ → Type 0
HasMark bytes = (before : List ℕ) × ((after : List ℕ) × (bytes ≡ before ++ (paste_end ++ after)))

-- none of the bytes is an escape
abbrev pub HasNoEscape : List ℕ → Type 0
HasNoEscape [] = Unit {0}
HasNoEscape (b ∷ bs) = (b ≢ escape) × HasNoEscape bs

-- all events are `Other`, on which nothing acts
abbrev pub AreOther : List TerminalEvent → Type 0
AreOther [] = Unit {0}
AreOther (event ∷ events) = (event ≡ terminal.Other) × AreOther events

-- the bytes stay within a bracketed paste: nothing acts on them, and the paste goes on after them
pub record StayPasted (bytes : List ℕ) : Type 0 where
  -- their events are `Other`
  pub quiet : AreOther (stream_events true bytes)
  -- the paste has not ended
  pub goes_on : is_pasted_after true bytes ≡ true

-- a bracketed paste of `pasted` has only `Other` events, and does not change the events of the
-- bytes `more` after it
pub record IsQuiet (pasted more : List ℕ) : Type 0 where
  -- the events of the paste
  pub others : List TerminalEvent
  -- they are `Other`
  pub quiet : AreOther others
  -- the events of the paste and of the bytes after it
  pub events : stream_events false (paste_begin ++ (pasted ++ (paste_end ++ more)))
      ≡ others ++ stream_events false more
