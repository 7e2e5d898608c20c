-- Keys that a terminal sends as one byte: printable ASCII, C0 controls and DEL.
use Rattle.std.specs.Prelude.{ℕ, ◌+◌, Bool, false, ◌&&◌, ◌||◌, ◌==◌, not, nat_lt, if◌then◌else◌}
use Rattle.scm_input.specs.declared.terminal.KeyCode.{KeyCode}
use Rattle.scm_input.specs.declared.terminal.KeyCode.TheVariants as key
use Rattle.scm_input.specs.declared.terminal.KeyEvent.{KeyEvent}
use Rattle.scm_input.specs.declared.terminal.KeyEventKind.TheVariants.{Press}
use Rattle.scm_terminal.specs.Bytes.{enter, tab, backspace, space, is_between, is_capital}

-- the key code of byte `b`: 13 is Enter, 9 is Tab, 1 to 26 are letters with control, and space to
-- `~` are their characters; but `H` and `L` are the small letters, which the key table names with
-- shift. Backspace (8 and 127) is no key of the table
abbrev pub code_of : ℕ → KeyCode
code_of b =
    if b == enter then key.Enter
    else if b == tab then key.Char b
    else if b == 72 || b == 76 then key.Char (b + 32)
    else if is_between 32 126 b then key.Char b
    else if b == backspace then key.Other
    else if is_between 1 26 b then key.Char (b + 96)
    else key.Other

-- whether byte `b` is typed with control: any C0 control but Backspace, Tab and Enter
abbrev pub is_with_control : ℕ → Bool
is_with_control b = ((nat_lt b space && not (b == backspace)) && not (b == tab)) && not (b == enter)

-- the key event of byte `b`, with alt if an escape preceded it; a capital letter has shift, as in
-- `crossterm`
unfoldable pub byte_key : Bool → ℕ → KeyEvent
byte_key alt b = record {
  code = code_of b;
  modifiers = record {
    shift = is_capital b;
    control = is_with_control b;
    alt = alt;
    other = false;
  };
  kind = Press;
}
