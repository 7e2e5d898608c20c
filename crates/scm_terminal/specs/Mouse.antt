-- Mouse reports in xterm's SGR form. Their three parameters are the button with its modifiers, and
-- the column and row, counted from 1.
use Rattle.std.specs.Prelude.{ℕ, ◌-◌, ◌%◌, Bool, false, ◌&&◌, ◌||◌, ◌==◌, nat_lt, Option, Some, None, if◌then◌else◌}
use Rattle.scm_input.specs.declared.terminal.KeyModifiers.{KeyModifiers}
use Rattle.scm_input.specs.declared.terminal.MouseButton.{MouseButton}
use Rattle.scm_input.specs.declared.terminal.MouseButton.TheVariants.{Left, Middle, Right}
use Rattle.scm_input.specs.declared.terminal.MouseEventKind.{MouseEventKind}
use Rattle.scm_input.specs.declared.terminal.MouseEventKind.TheVariants as mouse
use Rattle.scm_input.specs.declared.terminal.TerminalEvent.{TerminalEvent}
use Rattle.scm_input.specs.declared.terminal.TerminalEvent.TheVariants as terminal
use Rattle.scm_terminal.specs.Bytes.{has_bit}

-- the modifiers in the bits of the button `b`: 4 for shift, 8 for alt, 16 for control
abbrev pub button_modifiers : ℕ → KeyModifiers
button_modifiers b =
    record { shift = has_bit 4 b; control = has_bit 16 b; alt = has_bit 8 b; other = false }

-- the button in the two lowest bits, `n`; 3 is no button
abbrev pub button_of : ℕ → Option MouseButton
button_of n =
    if n == 0 then Some Left
    else if n == 1 then Some Middle
    else if n == 2 then Some Right
    else None

-- the kind of a movement: a drag with a button, or a move without one
abbrev pub motion_of : Option MouseButton → MouseEventKind
motion_of (Some b) = mouse.Drag b
motion_of None = mouse.Moved

-- the kind of a movement with the button of `n`
abbrev pub motion_kind : ℕ → MouseEventKind
motion_kind n = motion_of (button_of n)

-- the kind of a press or release of a button, if any
abbrev pub button_kind_of : Bool → Option MouseButton → MouseEventKind
button_kind_of is_down (Some b) = if is_down then mouse.Down b else mouse.Up b
button_kind_of is_down None = mouse.Other

-- the kind of a press or release of the button of `n`
abbrev pub button_kind : Bool → ℕ → MouseEventKind
button_kind is_down n = button_kind_of is_down (button_of n)

-- the kind of the wheel button `n`: up or down; a horizontal wheel is `Other`
abbrev pub wheel_kind : ℕ → MouseEventKind
wheel_kind n =
    if n == 0 then mouse.ScrollUp
    else if n == 1 then mouse.ScrollDown
    else mouse.Other

-- the kind of the event of button `b`: below 64 a button, with bit 32 for a movement; from 64 to 95
-- a wheel, which is only reported as down
abbrev pub mouse_kind : Bool → ℕ → MouseEventKind
mouse_kind is_down b =
    if nat_lt b 64 then (if has_bit 32 b then motion_kind (b % 4) else button_kind is_down (b % 4))
    else if nat_lt b 96 && is_down then wheel_kind (b % 4)
    else mouse.Other

-- the event of a mouse report; a report counts columns and rows from 1, an event from 0
unfoldable pub mouse_event : Bool → ℕ → ℕ → ℕ → TerminalEvent
mouse_event is_down b column row =
    if column == 0 || row == 0 then terminal.Other
    else terminal.Mouse (record {
      kind = mouse_kind is_down b;
      column = column - 1;
      row = row - 1;
      modifiers = button_modifiers b;
    })
