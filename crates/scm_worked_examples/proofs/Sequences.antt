-- What terminals send, and what is told of it, computed from the definitions.
use Rattle.std.proofs.Common.{◌≡◌, ℕ, ◌++◌, ◌∷◌, [], Some, true, false, refl, codes, map}
use Rattle.scm_input.specs.KeyTable.{none, shift, control, event_of}
use Rattle.scm_input.specs.declared.events.Event.TheVariants as events
use Rattle.scm_input.specs.declared.terminal.KeyCode.{KeyCode}
use Rattle.scm_input.specs.declared.terminal.KeyCode.TheVariants as key
use Rattle.scm_input.specs.declared.terminal.KeyEventKind.TheVariants.{Press}
use Rattle.scm_input.specs.declared.terminal.KeyModifiers.{KeyModifiers}
use Rattle.scm_input.specs.declared.terminal.MouseButton.TheVariants.{Left, Middle, Right}
use Rattle.scm_input.specs.declared.terminal.MouseEventKind.{MouseEventKind}
use Rattle.scm_input.specs.declared.terminal.MouseEventKind.TheVariants as mouse
use Rattle.scm_input.specs.declared.terminal.TerminalEvent.{TerminalEvent}
use Rattle.scm_input.specs.declared.terminal.TerminalEvent.TheVariants as terminal
use Rattle.scm_terminal.specs.Bytes.{is_parameter, is_final, is_continuation, begins_control_string}
use Rattle.scm_terminal.specs.ByteKeys.{byte_key}
use Rattle.scm_terminal.specs.Mouse.{mouse_event}
use Rattle.scm_terminal.specs.Sequences.{new_sequence, with_parameter, token_of, trailing_bytes}
use Rattle.scm_terminal.specs.Characters.{lead_character, with_continuation}
use Rattle.scm_terminal.specs.Streams.{first, split_from, stream_events, is_pasted_after}
use Rattle.scm_terminal.specs.Silences.{at_first, idle_event, burst_events}

unfoldable streams : Unit {0}
unfolding is_parameter is_final is_continuation begins_control_string byte_key mouse_event new_sequence with_parameter token_of trailing_bytes lead_character with_continuation first split_from
streams = tt

-- a key that goes down, and a report of the mouse
abbrev pressed : KeyModifiers → KeyCode → TerminalEvent
pressed held code = terminal.Key (record { code = code; modifiers = held; kind = Press })

abbrev at : MouseEventKind → ℕ → ℕ → TerminalEvent
at kind row column = terminal.Mouse (record { kind = kind; column = column; row = row; modifiers = none })

abbrev alt : KeyModifiers
alt = record { shift = false; control = false; alt = true; other = false }

-- ---- keys

arrow_up : stream_events false (27 ∷ codes "[A") ≡ pressed none key.Up ∷ []
unfolding streams
arrow_up = refl

arrow_left_in_application_mode : stream_events false (27 ∷ codes "OD") ≡ pressed none key.Left ∷ []
unfolding streams
arrow_left_in_application_mode = refl

shift_and_right : stream_events false (27 ∷ codes "[1;2C") ≡ pressed shift key.Right ∷ []
unfolding streams
shift_and_right = refl

control_and_down : stream_events false (27 ∷ codes "[1;5B") ≡ pressed control key.Down ∷ []
unfolding streams
control_and_down = refl

everything_and_up : stream_events false (27 ∷ codes "[1;16A") ≡ pressed (record { shift = true; control = true; alt = true; other = true }) key.Up ∷ []
unfolding streams
everything_and_up = refl

page_up : stream_events false (27 ∷ codes "[5~") ≡ pressed none key.PageUp ∷ []
unfolding streams
page_up = refl

control_and_page_down : stream_events false (27 ∷ codes "[6;5~") ≡ pressed control key.PageDown ∷ []
unfolding streams
control_and_page_down = refl

home_and_end : stream_events false ((27 ∷ codes "[H") ++ (27 ∷ codes "OF") ++ (27 ∷ codes "[1~") ++ (27 ∷ codes "[4~"))
    ≡ pressed none key.Home ∷ pressed none key.End ∷ pressed none key.Home ∷ pressed none key.End ∷ []
unfolding streams
home_and_end = refl

control_and_home : stream_events false ((27 ∷ codes "[1;5H") ++ (27 ∷ codes "[8;5~")) ≡ pressed control key.Home ∷ pressed control key.End ∷ []
unfolding streams
control_and_home = refl

letters : stream_events false (codes "aA ?") ≡ pressed none (key.Char 97) ∷ pressed shift (key.Char 65) ∷ pressed none (key.Char 32) ∷ pressed none (key.Char 63) ∷ []
unfolding streams
letters = refl

controls : stream_events false (3 ∷ 13 ∷ 9 ∷ 127 ∷ []) ≡ pressed control (key.Char 99) ∷ pressed none key.Enter ∷ pressed none (key.Char 9) ∷ pressed none key.Other ∷ []
unfolding streams
controls = refl

alt_and_a_letter : stream_events false (27 ∷ codes "a") ≡ pressed alt (key.Char 97) ∷ []
unfolding streams
alt_and_a_letter = refl

-- the first escape is the key, and the second one begins an arrow
escape_before_a_sequence : stream_events false (27 ∷ 27 ∷ codes "[A") ≡ pressed none key.Esc ∷ pressed none key.Up ∷ []
unfolding streams
escape_before_a_sequence = refl

-- an escape waits, and a silence makes it the key
escape_alone : idle_event at_first (27 ∷ []) ≡ Some (pressed none key.Esc)
unfolding streams
escape_alone = refl

-- ---- other forms of keys

application_mode_with_control : stream_events false (27 ∷ codes "O5A") ≡ pressed control key.Up ∷ []
unfolding streams
application_mode_with_control = refl

rxvt_arrows : stream_events false ((27 ∷ codes "[d") ++ (27 ∷ codes "Oa")) ≡ pressed shift key.Left ∷ pressed control key.Up ∷ []
unfolding streams
rxvt_arrows = refl

rxvt_home_and_end : stream_events false ((27 ∷ codes "[7~") ++ (27 ∷ codes "[8~") ++ (27 ∷ codes "[7^")) ≡ pressed none key.Home ∷ pressed none key.End ∷ pressed control key.Home ∷ []
unfolding streams
rxvt_home_and_end = refl

rxvt_page_up : stream_events false (27 ∷ codes "[5^") ≡ pressed control key.PageUp ∷ []
unfolding streams
rxvt_page_up = refl

-- a small letter with shift is the capital, as if its byte had come
typed_letters : stream_events false ((27 ∷ codes "[97u") ++ (27 ∷ codes "[97;2u") ++ (27 ∷ codes "[104;2u") ++ (27 ∷ codes "[99;5u"))
    ≡ pressed none (key.Char 97) ∷ pressed shift (key.Char 65) ∷ pressed shift (key.Char 104) ∷ pressed control (key.Char 99) ∷ []
unfolding streams
typed_letters = refl

-- a question mark has no shift, as if its byte had come
other_keys_of_xterm : stream_events false ((27 ∷ codes "[27;5;99~") ++ (27 ∷ codes "[27;2;63~") ++ (27 ∷ codes "[27;2;65~"))
    ≡ pressed control (key.Char 99) ∷ pressed none (key.Char 63) ∷ pressed shift (key.Char 65) ∷ []
unfolding streams
other_keys_of_xterm = refl

named_keys_by_code : stream_events false ((27 ∷ codes "[27u") ++ (27 ∷ codes "[13;2u") ++ (27 ∷ codes "[9u"))
    ≡ pressed none key.Esc ∷ pressed shift key.Enter ∷ pressed none (key.Char 9) ∷ []
unfolding streams
named_keys_by_code = refl

-- a release, a C0 control and a keypad's key by their codes
no_typed_keys : stream_events false ((27 ∷ codes "[97;1:3u") ++ (27 ∷ codes "[3u") ++ (27 ∷ codes "[57414u")) ≡ terminal.Other ∷ terminal.Other ∷ terminal.Other ∷ []
unfolding streams
no_typed_keys = refl

-- ---- silences

-- an arrow behind an escape that a silence ended, and one that a silence tore within
torn_arrows : burst_events at_first ((27 ∷ []) ∷ codes "[A" ∷ (27 ∷ codes "[1;") ∷ codes "5A" ∷ []) ≡ pressed none key.Esc ∷ pressed none key.Up ∷ pressed control key.Up ∷ []
unfolding streams
torn_arrows = refl

-- after a real Esc, a letter is a key at once; a bracket takes one key with it
keys_after_escape : burst_events at_first ((27 ∷ []) ∷ codes "a" ∷ (27 ∷ []) ∷ codes "[" ∷ codes "qq" ∷ [])
    ≡ pressed none key.Esc ∷ pressed none (key.Char 97) ∷ pressed none key.Esc ∷ terminal.Other ∷ pressed none (key.Char 113) ∷ []
unfolding streams
keys_after_escape = refl

-- alt with `]` is no key, and does not hide the next one; a torn answer on colours is no key
strings_and_silences : burst_events at_first ((27 ∷ codes "]") ∷ codes "q" ∷ (27 ∷ codes "]11;rgb:c") ∷ codes "ccc" ∷ (7 ∷ []) ∷ [])
    ≡ terminal.Other ∷ pressed none (key.Char 113) ∷ terminal.Other ∷ []
unfolding streams
strings_and_silences = refl

-- the end mark of a paste is lost: ctrl-c alone ends it, among other bytes it does not
lost_mark : burst_events at_first ((27 ∷ codes "[200~a") ∷ (3 ∷ codes "q") ∷ (3 ∷ []) ∷ codes "q" ∷ [])
    ≡ terminal.Other ∷ terminal.Other ∷ terminal.Other ∷ terminal.Other ∷ terminal.Other ∷ pressed control (key.Char 99) ∷ pressed none (key.Char 113) ∷ []
unfolding streams
lost_mark = refl

-- ---- characters

two_bytes : stream_events false (195 ∷ 164 ∷ []) ≡ pressed none (key.Char 228) ∷ []
unfolding streams
two_bytes = refl

three_bytes : stream_events false (226 ∷ 130 ∷ 172 ∷ []) ≡ pressed none (key.Char 8364) ∷ []
unfolding streams
three_bytes = refl

four_bytes : stream_events false (240 ∷ 159 ∷ 153 ∷ 130 ∷ []) ≡ pressed none (key.Char 128578) ∷ []
unfolding streams
four_bytes = refl

-- too long a form of `a`, half a pair, and a byte that begins nothing
no_characters : stream_events false (193 ∷ 161 ∷ 237 ∷ 160 ∷ 128 ∷ 255 ∷ []) ≡ terminal.Other ∷ terminal.Other ∷ terminal.Other ∷ []
unfolding streams
no_characters = refl

-- a key is heard behind half a character
half_a_character : stream_events false (226 ∷ 130 ∷ codes "q") ≡ terminal.Other ∷ pressed none (key.Char 113) ∷ []
unfolding streams
half_a_character = refl

-- ---- the mouse

click : stream_events false (27 ∷ codes "[<0;3;7M") ≡ at (mouse.Down Left) 6 2 ∷ []
unfolding streams
click = refl

button_goes_up : stream_events false (27 ∷ codes "[<2;65535;1m") ≡ at (mouse.Up Right) 0 65534 ∷ []
unfolding streams
button_goes_up = refl

wheel : stream_events false (27 ∷ codes "[<65;1;1M") ≡ at mouse.ScrollDown 0 0 ∷ []
unfolding streams
wheel = refl

dragged : stream_events false (27 ∷ codes "[<33;2;2M") ≡ at (mouse.Drag Middle) 1 1 ∷ []
unfolding streams
dragged = refl

rxvt_click_and_wheel : stream_events false ((27 ∷ codes "[32;3;7M") ++ (27 ∷ codes "[97;1;1M")) ≡ at (mouse.Down Left) 6 2 ∷ at mouse.ScrollDown 0 0 ∷ []
unfolding streams
rxvt_click_and_wheel = refl

-- no place has the number 0, nor one above 65535
no_place : stream_events false ((27 ∷ codes "[<0;0;1M") ++ (27 ∷ codes "[<0;65536;1M")) ≡ terminal.Other ∷ terminal.Other ∷ []
unfolding streams
no_place = refl

-- in the old form three bytes follow, which are no keys
old_form_of_a_click : stream_events false (27 ∷ codes "[M q#q") ≡ terminal.Other ∷ pressed none (key.Char 113) ∷ []
unfolding streams
old_form_of_a_click = refl

-- ---- the rest

-- of what is pasted no key acts, whatever it is, and the key behind it does
paste : stream_events false ((27 ∷ codes "[200~") ++ codes "c" ++ (27 ∷ codes "[A") ++ (3 ∷ []) ++ (27 ∷ codes "[201~") ++ codes "q")
    ≡ terminal.Other ∷ terminal.Other ∷ terminal.Other ∷ terminal.Other ∷ terminal.Other ∷ pressed none (key.Char 113) ∷ []
unfolding streams
paste = refl

-- an unfinished sequence in it does not hide its end
paste_with_half_a_sequence : is_pasted_after false ((27 ∷ codes "[200~") ++ (27 ∷ codes "[2") ++ (27 ∷ codes "[201~")) ≡ false
unfolding streams
paste_with_half_a_sequence = refl

-- the focus, the cursor's place, the screen's size, a key with a name that is not known here
reports : stream_events false ((27 ∷ codes "[I") ++ (27 ∷ codes "[12;40R") ++ (27 ∷ codes "[48;24;80;480;800t") ++ (27 ∷ codes "OP") ++ (27 ∷ codes "[3~"))
    ≡ terminal.Other ∷ terminal.Other ∷ terminal.Other ∷ terminal.Other ∷ terminal.Other ∷ []
unfolding streams
reports = refl

-- the Linux console's first function key
console_key : stream_events false (27 ∷ codes "[[Aq") ≡ terminal.Other ∷ pressed none (key.Char 113) ∷ []
unfolding streams
console_key = refl

-- a late answer on colours, with a bell, and with an escape and a backslash
late_answers : stream_events false ((27 ∷ codes "]11;rgb:cccc/aaaa/ffff") ++ (7 ∷ []) ++ (27 ∷ codes "]11;rgb:c/a/f") ++ (27 ∷ 92 ∷ []) ++ codes "q")
    ≡ terminal.Other ∷ terminal.Other ∷ terminal.Other ∷ pressed none (key.Char 113) ∷ []
unfolding streams
late_answers = refl

-- a key is heard behind a sequence that breaks off
broken : stream_events false (27 ∷ codes "[1;" ++ (3 ∷ [])) ≡ terminal.Other ∷ pressed control (key.Char 99) ∷ []
unfolding streams
broken = refl

-- ---- as events

events_of_keys : map event_of (stream_events false (codes "c" ++ (27 ∷ codes "[1;2C") ++ (27 ∷ codes "[<0;3;7M") ++ (27 ∷ codes "a")))
    ≡ events.QuitAccept ∷ events.FocusInner ∷ events.Click 6 2 ∷ events.None ∷ []
unfolding streams
events_of_keys = refl
