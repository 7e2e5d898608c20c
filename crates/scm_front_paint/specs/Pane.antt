-- Where a terminal stands over a session: its size, and the columns to its left.
use Rattle.std.specs.Prelude.{ℕ, ◌+◌, ◌-◌, ◌/◌, min, max, Bool, not, ◌&&◌, ◌||◌, if◌then◌else◌, Option, Some, None, is_some}
use Rattle.scm_input.specs.KeyTable.{none, shift, char, same_modifiers, same_key}
use Rattle.scm_input.specs.declared.inputs.TerminalKind.{TerminalKind}
use Rattle.scm_input.specs.declared.inputs.TerminalKind.TheVariants.{Testing}
use Rattle.scm_input.specs.declared.terminal.KeyModifiers.{KeyModifiers}
use Rattle.scm_input.specs.declared.terminal.KeyCode.{KeyCode}
use Rattle.scm_input.specs.declared.terminal.KeyEventKind.{KeyEventKind}
use Rattle.scm_input.specs.declared.terminal.KeyEventKind.TheVariants.{Press, Repeat, Release}
use Rattle.scm_input.specs.declared.terminal.MouseEvent.{MouseEvent}
use Rattle.scm_input.specs.declared.terminal.MouseEventKind.{MouseEventKind}
use Rattle.scm_input.specs.declared.terminal.MouseEventKind.TheVariants as mouse
use Rattle.scm_input.specs.declared.terminal.TerminalEvent.{TerminalEvent}
use Rattle.scm_input.specs.declared.terminal.TerminalEvent.TheVariants as terminal
use Rattle.scm_record.specs.Live.{Live}
use Rattle.scm_front_paint.specs.declared.pane.Pane.{Pane}
use Rattle.scm_front_paint.specs.declared.pane.Heard.{Heard}
use Rattle.scm_front_paint.specs.declared.pane.Heard.TheVariants.{Show, Hand}

-- whether no dialog is open
abbrev pub is_free : Live → Bool
is_free l = not (is_some l.session.shown.quit_dialog) && not l.session.shown.is_help_open

-- ---- columns and rows

-- the columns of the window to the left of the terminal: none while a dialog is open, since dialogs are centred
abbrev pub offset : Pane → Live → ℕ
offset p l = if is_free l then p.x else 0

-- the screen of the session: `offset` columns wider than the terminal, and the status row less
abbrev pub kind_for : Pane → Live → TerminalKind
kind_for p l = Testing (offset p l + p.width) (p.height - 1)

-- the terminal with `x` columns to its left, as far as a screen can be wide
abbrev pub with_x : Pane → ℕ → Pane
with_x p x = record p { x = min x (65535 - p.width) }

-- a terminal of another size
abbrev pub with_size : Pane → ℕ → ℕ → Pane
with_size p width height = with_x (record p { width = width; height = height }) p.x

-- a step is half the width, and at least a column
abbrev pub step : Pane → ℕ
step p = max (p.width / 2) 1

-- a step to the right and to the left
abbrev pub right_of : Pane → ℕ
right_of p = min (p.x + step p) 65535

abbrev pub left_of : Pane → ℕ
left_of p = p.x - step p

-- ---- what is heard

-- the event with the mouse `x` columns further right: in the window
abbrev pub moved : ℕ → TerminalEvent → TerminalEvent
moved x (terminal.Key e) = terminal.Key e
moved x (terminal.Mouse e) = terminal.Mouse (record e { column = min (x + e.column) 65535 })
moved x terminal.Other = terminal.Other

-- whether a key is `character`, typed alone or with shift
abbrev pub is_char : KeyCode → KeyModifiers → KeyCode → Bool
is_char character modifiers code = (same_modifiers none modifiers || same_modifiers shift modifiers) && same_key character code

-- `>` and `<`, if they are pressed
abbrev pub sideways_key : Pane → KeyEventKind → KeyModifiers → KeyCode → Option ℕ
sideways_key p Press modifiers code =
    if is_char (char ">") modifiers code then Some (right_of p)
    else if is_char (char "<") modifiers code then Some (left_of p)
    else None
sideways_key p Repeat modifiers code = None
sideways_key p Release modifiers code = None

-- the wheel: down is to the right, and up to the left
abbrev pub sideways_wheel : Pane → MouseEventKind → Option ℕ
sideways_wheel p mouse.ScrollUp = Some (left_of p)
sideways_wheel p mouse.ScrollDown = Some (right_of p)
sideways_wheel p (mouse.Down b) = None
sideways_wheel p (mouse.Up b) = None
sideways_wheel p (mouse.Drag b) = None
sideways_wheel p mouse.Moved = None
sideways_wheel p mouse.Other = None

-- the wheel, if shift alone is held
abbrev pub sideways_mouse : Pane → MouseEvent → Option ℕ
sideways_mouse p e = if same_modifiers shift e.modifiers then sideways_wheel p e.kind else None

abbrev pub sideways_event : Pane → TerminalEvent → Option ℕ
sideways_event p (terminal.Key e) = sideways_key p e.kind e.modifiers e.code
sideways_event p (terminal.Mouse e) = sideways_mouse p e
sideways_event p terminal.Other = None

abbrev pub show_or : Option ℕ → TerminalEvent → Heard
show_or (Some x) event = Show x
show_or None event = Hand event

-- What an event of the terminal is. `is_own` says that `>`, `<` and the wheel with shift are the view's.
abbrev pub heard_as : Pane → Bool → ℕ → TerminalEvent → Heard
heard_as p is_own x event = show_or (if is_own then sideways_event p event else None) (moved x event)
