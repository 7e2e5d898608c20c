-- Escape sequences: CSI (`ESC [`) or SS3 (`ESC O`), parameters between semicolons, a final byte. A
-- parameter that is left out is 0. The syntax is that of ECMA-48. The meanings are those of xterm's
-- control sequences, as far as the key table needs them.
use Rattle.std.specs.Prelude.{ℕ, ◌+◌, ◌-◌, ◌*◌, Bool, true, false, ◌&&◌, ◌||◌, ◌==◌, nat_le, nat_lt, Option, Some, None, if◌then◌else◌}
use Rattle.scm_input.specs.KeyTable.{none, shift, control}
use Rattle.scm_input.specs.declared.terminal.KeyCode.{KeyCode}
use Rattle.scm_input.specs.declared.terminal.KeyCode.TheVariants as key
use Rattle.scm_input.specs.declared.terminal.KeyEventKind.TheVariants.{Press}
use Rattle.scm_input.specs.declared.terminal.KeyModifiers.{KeyModifiers}
use Rattle.scm_input.specs.declared.terminal.TerminalEvent.TheVariants as terminal
use Rattle.scm_terminal.specs.declared.sequences.Sequence.{Sequence}
use Rattle.scm_terminal.specs.declared.sequences.SequenceKind.{SequenceKind}
use Rattle.scm_terminal.specs.declared.sequences.SequenceKind.TheVariants.{Csi, Ss3, Mouse, Unknown}
use Rattle.scm_terminal.specs.declared.tokens.Token.{Token}
use Rattle.scm_terminal.specs.declared.tokens.Token.TheVariants.{Event, PasteBegins, PasteEnds}
use Rattle.scm_terminal.specs.Bytes.{escape, tab, enter, semicolon, less_than, bracket, caret, tilde, capital_m, small_m, small_u, is_between, is_digit, is_capital, is_small, has_bit}
use Rattle.scm_terminal.specs.ByteKeys.{code_of}
use Rattle.scm_terminal.specs.Mouse.{mouse_event}

-- the token of bytes that are not recognized: the event `Other`
abbrev pub unrecognized_token : Token
unrecognized_token = Event terminal.Other

-- ---- the parameters, from left to right

-- a sequence of `kind` without parameters
unfoldable pub new_sequence : SequenceKind → Sequence
new_sequence kind = record { kind = kind; bytes = 0; semicolons = 0; first = 0; second = 0; last = 0 }

-- the sequence `q` with its kind replaced by `kind`
abbrev pub as_kind : Sequence → SequenceKind → Sequence
as_kind q kind = record q { kind = kind }

-- the sequence `q` after one more digit; a parameter above 65,535 makes it unknown
abbrev pub with_digit : Sequence → ℕ → Sequence
with_digit q digit =
    if nat_le (q.last * 10 + digit) 65535 then record q { last = q.last * 10 + digit }
    else as_kind q Unknown

-- the sequence `q` after one more semicolon; a fourth parameter makes it unknown
abbrev pub with_semicolon : Sequence → Sequence
with_semicolon q =
    if nat_lt q.semicolons 2 then record q {
      semicolons = q.semicolons + 1;
      first = q.second;
      second = q.last;
      last = 0;
    }
    else as_kind q Unknown

-- whether the kind is `Csi`
abbrev pub is_csi : SequenceKind → Bool
is_csi Csi = true
is_csi Ss3 = false
is_csi Mouse = false
is_csi Unknown = false

-- whether `q` is `ESC [` with no parameter, or with zeros alone
abbrev pub is_blank : Sequence → Bool
is_blank q = is_csi q.kind && (q.semicolons == 0 && q.last == 0)

-- the sequence `q` with one more parameter byte counted, up to 4
abbrev pub counted : Sequence → Sequence
counted q = record q { bytes = if nat_lt q.bytes 4 then q.bytes + 1 else q.bytes }

-- the sequence `q` after the parameter byte `b`: a digit, a semicolon, or a leading `<`, which
-- makes it a mouse report; any other byte makes it unknown
unfoldable pub with_parameter : Sequence → ℕ → Sequence
with_parameter q b =
    if is_digit b then with_digit (counted q) (b - 48)
    else if b == semicolon then with_semicolon (counted q)
    else if b == less_than && is_blank (counted q) then as_kind (counted q) Mouse
    else as_kind (counted q) Unknown

-- ---- the token of a sequence

-- the parameter that is the number of the key: the one before the modifiers, or the only one
abbrev pub key_number : Sequence → ℕ
key_number q = if q.semicolons == 0 then q.last else q.second

-- the modifiers of the parameter `number`: as in xterm, it is 1 plus 1 for shift, 2 for alt, 4 for
-- control, and 8 or more for others; 0 is none
abbrev pub modifiers_of : ℕ → KeyModifiers
modifiers_of number =
    if number == 0 then none
    else record {
      shift = has_bit 1 (number - 1);
      control = has_bit 4 (number - 1);
      alt = has_bit 2 (number - 1);
      other = nat_le 8 (number - 1);
    }

-- the modifiers of a key with a number: those of the second parameter
abbrev pub key_modifiers : Sequence → KeyModifiers
key_modifiers q = if q.semicolons == 0 then none else modifiers_of q.last

-- the token of a key with its modifiers, or of no key
abbrev pub key_with : KeyModifiers → Option KeyCode → Token
key_with modifiers None = unrecognized_token
key_with modifiers (Some code) =
    Event (terminal.Key (record { code = code; modifiers = modifiers; kind = Press }))

-- the key of the final byte `last`: the arrows are `A` to `D`, Home is `H`, and End is `F`
abbrev pub lettered_key : ℕ → Option KeyCode
lettered_key last =
    if last == 65 then Some key.Up
    else if last == 66 then Some key.Down
    else if last == 67 then Some key.Right
    else if last == 68 then Some key.Left
    else if last == 72 then Some key.Home
    else if last == 70 then Some key.End
    else None

-- the token of a lettered key: an arrow (`A` to `D`), Home (`H`) or End (`F`) with the modifiers of
-- the last parameter, where the parameter before it is 1 or left out; or without parameters `a` to
-- `d`, rxvt's arrows with `held`
abbrev pub lettered_token : KeyModifiers → Sequence → ℕ → Token
lettered_token held q last =
    if is_between 97 100 last then (
    if q.bytes == 0 then key_with held (lettered_key (last - 32)) else unrecognized_token)
    else if nat_lt q.semicolons 2 && nat_le q.second 1 then
    key_with (modifiers_of q.last) (lettered_key last)
    else unrecognized_token

-- the key of `number`: 1 and 7 are Home, 4 and 8 are End, 5 is Page Up, and 6 is Page Down
abbrev pub numbered_key : ℕ → Option KeyCode
numbered_key number =
    if number == 1 || number == 7 then Some key.Home
    else if number == 4 || number == 8 then Some key.End
    else if number == 5 then Some key.PageUp
    else if number == 6 then Some key.PageDown
    else None

-- the token of rxvt's numbered key with control
abbrev pub control_numbered_token : Sequence → Token
control_numbered_token q =
    if q.semicolons == 0 then key_with control (numbered_key q.last) else unrecognized_token

-- the character that a key types: of a small letter with shift, the capital
abbrev pub capital : Bool → ℕ → ℕ
capital is_shift code = if is_shift && is_small code then code - 32 else code

-- the token of the key of the byte `b`: as when the byte is typed, a capital letter has shift, and
-- other characters have none
abbrev pub printable_key : KeyModifiers → ℕ → Token
printable_key modifiers b = key_with (record modifiers { shift = is_capital b }) (Some (code_of b))

-- the token of the key that types the character `code`: Esc, Tab, Enter or printable ASCII
abbrev pub typed_key : KeyModifiers → ℕ → Token
typed_key modifiers code =
    if code == escape then key_with modifiers (Some key.Esc)
    else if code == tab || code == enter then key_with modifiers (Some (code_of code))
    else if is_between 32 126 code then printable_key modifiers (capital modifiers.shift code)
    else unrecognized_token

-- the token of a typed key by its code and modifiers
abbrev pub typed_token : Sequence → Token
typed_token q =
    if nat_lt q.semicolons 2 then typed_key (key_modifiers q) (key_number q) else unrecognized_token

-- whether the parameter bytes of `q` are the three digits of `number`
abbrev pub is_mark : Sequence → ℕ → Bool
is_mark q number = ((q.bytes == 3) && (q.semicolons == 0)) && (q.last == number)

-- the token of a control sequence with the final byte `~`: a mark of a bracketed paste, 200 or 201
-- and nothing else; a numbered key; or a typed key in xterm's form, 27, its modifiers and its code
abbrev pub tilde_token : Sequence → Token
tilde_token q =
    if is_mark q 200 then PasteBegins
    else if is_mark q 201 then PasteEnds
    else if nat_lt q.semicolons 2 then key_with (key_modifiers q) (numbered_key (key_number q))
    else if q.first == 27 then typed_key (modifiers_of q.second) q.last
    else unrecognized_token

-- the token of a mouse report in rxvt's form: a button, 32 more than in xterm's SGR form, a column
-- and a row
abbrev pub old_mouse_token : Sequence → Token
old_mouse_token q =
    if q.semicolons == 2 && nat_le 32 q.first then
    Event (mouse_event true (q.first - 32) q.second q.last)
    else unrecognized_token

-- the token of a control sequence with the final byte `last`
abbrev pub key_token : Sequence → ℕ → Token
key_token q last =
    if last == tilde then tilde_token q
    else if last == caret then control_numbered_token q
    else if last == small_u then typed_token q
    else if last == capital_m then old_mouse_token q
    else lettered_token shift q last

-- the token of a mouse report: button, column and row, then `M` for a press or `m` for a release
abbrev pub mouse_token : Sequence → ℕ → Token
mouse_token q last =
    if q.semicolons == 2 && (last == capital_m || last == small_m) then
    Event (mouse_event (last == capital_m) q.first q.second q.last)
    else unrecognized_token

-- the token of the sequence `q` of the kind in front, with the final byte `last`
abbrev pub token_by : SequenceKind → Sequence → ℕ → Token
token_by Csi q last = key_token q last
token_by Ss3 q last = lettered_token control q last
token_by Mouse q last = mouse_token q last
token_by Unknown q last = unrecognized_token

-- the token of the sequence `q` with the final byte `last`
unfoldable pub token_of : Sequence → ℕ → Token
token_of q last = token_by q.kind q last

-- the number of bytes after the final byte `last` that belong to the sequence `q`: 3 in xterm's old
-- mouse report `ESC [ M`, 1 in a function key `ESC [ [` of the Linux console
unfoldable pub trailing_bytes : Sequence → ℕ → ℕ
trailing_bytes q last =
    if is_blank q then (if last == capital_m then 3 else if last == bracket then 1 else 0) else 0
