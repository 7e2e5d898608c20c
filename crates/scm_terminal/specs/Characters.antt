-- Characters of several bytes, in UTF-8: a lead byte, then continuation bytes with six bits each.
use Rattle.std.specs.Prelude.{ℕ, ◌+◌, ◌-◌, ◌*◌, ◌%◌, Bool, false, ◌&&◌, nat_le, nat_lt, Option, Some, None, if◌then◌else◌}
use Rattle.std.proofs.Math.Utf8.{scalar}
use Rattle.scm_input.specs.declared.terminal.KeyCode.TheVariants as key
use Rattle.scm_input.specs.declared.terminal.KeyEventKind.TheVariants.{Press}
use Rattle.scm_input.specs.declared.terminal.TerminalEvent.TheVariants as terminal
use Rattle.scm_terminal.specs.declared.characters.Character.{Character}
use Rattle.scm_terminal.specs.declared.characters.CharacterProgress.{CharacterProgress}
use Rattle.scm_terminal.specs.declared.characters.CharacterProgress.TheVariants.{Whole, Part}
use Rattle.scm_terminal.specs.declared.tokens.Token.{Token}
use Rattle.scm_terminal.specs.declared.tokens.Token.TheVariants.{Event}
use Rattle.scm_terminal.specs.Sequences.{unrecognized_token}

-- the token of the code point `code`: unrecognized if it is no character, or if it is below `least`
-- (overlong)
abbrev pub char_token : Bool → ℕ → ℕ → Token
char_token alt least code =
    if nat_le least code && scalar code then Event (terminal.Key (record {
      code = key.Char code;
      modifiers = record { shift = false; control = false; alt = alt; other = false };
      kind = Press;
    }))
    else unrecognized_token

-- an unfinished character with `left` bytes missing
abbrev pub part : Bool → ℕ → ℕ → ℕ → Character
part alt left least bits = record { alt = alt; left = left; least = least; bits = bits }

-- the unfinished character of byte `b`, at least 128, if `b` is a lead byte
unfoldable pub lead_character : Bool → ℕ → Option Character
lead_character alt b =
    if nat_lt b 192 then None
    else if nat_lt b 224 then Some (part alt 1 128 (b - 192))
    else if nat_lt b 240 then Some (part alt 2 2048 (b - 224))
    else if nat_lt b 248 then Some (part alt 3 65536 (b - 240))
    else None

-- the bits of `c` with the six bits of byte `b`; before the last byte there are at most 15 bits
abbrev pub bits_with : Character → ℕ → ℕ
bits_with c b = c.bits * 64 + b % 64

-- the outcome of the continuation byte `b` of `c`
unfoldable pub with_continuation : Character → ℕ → CharacterProgress
with_continuation c b =
    if nat_le c.left 1 then Whole (char_token c.alt c.least (bits_with c b))
    else if nat_le (bits_with c b) 65535 then Part (part c.alt (c.left - 1) c.least (bits_with c b))
    else Whole unrecognized_token
