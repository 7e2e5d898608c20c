-- The key table: the event of each key with its modifiers, and of each mouse action.
use Prim.Native.String.{String}
use Rattle.std.specs.Prelude.{ℕ, List, [], ◌∷◌, Bool, true, false, ◌&&◌, ◌==◌, codes, not, if◌then◌else◌}
use Rattle.scm_input.specs.declared.events.Event.{Event}
use Rattle.scm_input.specs.declared.events.Event.TheVariants.{None, QuitAccept, QuitCancel, QuitInterrupt, QuitEscape, ScrollUp, ScrollDown, PageUp, PageDown, FocusPrev, FocusPrevSameKind, FocusPrevPage, FocusNext, FocusNextSameKind, FocusNextPage, FocusInner, FocusOuter, ToggleItem, ToggleItemAndAdvance, ToggleAll, ToggleAllUniform, ExpandItem, ExpandAll, Click, EditCommitMessage, Help}
use Rattle.scm_input.specs.declared.terminal.KeyModifiers.{KeyModifiers}
use Rattle.scm_input.specs.declared.terminal.KeyCode.{KeyCode}
use Rattle.scm_input.specs.declared.terminal.KeyCode.TheVariants as key
use Rattle.scm_input.specs.declared.terminal.KeyEventKind.{KeyEventKind}
use Rattle.scm_input.specs.declared.terminal.KeyEventKind.TheVariants.{Press, Repeat, Release}
use Rattle.scm_input.specs.declared.terminal.KeyEvent.{KeyEvent}
use Rattle.scm_input.specs.declared.terminal.MouseButton.TheVariants as button
use Rattle.scm_input.specs.declared.terminal.MouseEventKind.{MouseEventKind}
use Rattle.scm_input.specs.declared.terminal.MouseEventKind.TheVariants as mouse
use Rattle.scm_input.specs.declared.terminal.MouseEvent.{MouseEvent}
use Rattle.scm_input.specs.declared.terminal.TerminalEvent.{TerminalEvent}
use Rattle.scm_input.specs.declared.terminal.TerminalEvent.TheVariants as terminal

-- no modifier
abbrev pub none : KeyModifiers
none = record { shift = false; control = false; alt = false; other = false }

-- only shift
abbrev pub shift : KeyModifiers
shift = record { shift = true; control = false; alt = false; other = false }

-- only control
abbrev pub control : KeyModifiers
control = record { shift = false; control = true; alt = false; other = false }

-- the key of the first character of a text
abbrev pub first_char : List ℕ → KeyCode
first_char [] = key.Other
first_char (c ∷ _) = key.Char c

-- the key of a character, written as a string
abbrev pub char : String → KeyCode
char text = first_char (codes text)

-- a row of the table: with exactly these modifiers, this key is this event
pub record KeyRow : Type 0 where
  pub modifiers : KeyModifiers
  pub code : KeyCode
  pub event : Event

-- a row of the table
abbrev pub on : KeyModifiers → KeyCode → Event → KeyRow
on modifiers code event = record { modifiers = modifiers; code = code; event = event }

-- all rows of the table
abbrev pub key_table : List KeyRow
key_table =
    on none (char "q") QuitCancel
    ∷ on none key.Esc QuitEscape
    ∷ on control (char "c") QuitInterrupt
    ∷ on none (char "c") QuitAccept
    ∷ on none (char "?") Help
    ∷ on control key.Up ScrollUp
    ∷ on control (char "y") ScrollUp
    ∷ on control key.Down ScrollDown
    ∷ on control (char "e") ScrollDown
    ∷ on control key.PageUp PageUp
    ∷ on control (char "b") PageUp
    ∷ on control key.PageDown PageDown
    ∷ on control (char "f") PageDown
    ∷ on none key.Up FocusPrev
    ∷ on none (char "k") FocusPrev
    ∷ on none key.Down FocusNext
    ∷ on none (char "j") FocusNext
    ∷ on none key.PageUp FocusPrevSameKind
    ∷ on none key.PageDown FocusNextSameKind
    ∷ on shift key.Left (FocusOuter false)
    ∷ on shift (char "h") (FocusOuter false)
    ∷ on none key.Left (FocusOuter true)
    ∷ on none (char "h") (FocusOuter true)
    ∷ on none key.Right FocusInner
    ∷ on shift key.Right FocusInner
    ∷ on none (char "l") FocusInner
    ∷ on shift (char "l") FocusInner
    ∷ on control (char "u") FocusPrevPage
    ∷ on control (char "d") FocusNextPage
    ∷ on none (char " ") ToggleItem
    ∷ on none key.Enter ToggleItemAndAdvance
    ∷ on none (char "a") ToggleAll
    ∷ on shift (char "A") ToggleAllUniform
    ∷ on none (char "f") ExpandItem
    ∷ on shift (char "F") ExpandAll
    ∷ on none (char "e") EditCommitMessage
    ∷ []

-- whether the two truth values are equal
abbrev pub same_bool : Bool → Bool → Bool
same_bool true b = b
same_bool false b = not b

-- whether exactly the same modifiers are held
abbrev pub same_modifiers : KeyModifiers → KeyModifiers → Bool
same_modifiers a b =
    (same_bool a.shift b.shift && same_bool a.control b.control) && (same_bool a.alt b.alt && same_bool a.other b.other)

-- whether the two keys are equal
abbrev pub same_key : KeyCode → KeyCode → Bool
same_key (key.Char c) (key.Char d) = d == c
same_key key.Up key.Up = true
same_key key.Down key.Down = true
same_key key.Left key.Left = true
same_key key.Right key.Right = true
same_key key.PageUp key.PageUp = true
same_key key.PageDown key.PageDown = true
same_key key.Home key.Home = true
same_key key.End key.End = true
same_key key.Enter key.Enter = true
same_key key.Esc key.Esc = true
same_key key.Other key.Other = true
same_key _ _ = false

-- the event of the first row that matches, or else `None`
abbrev pub first_fit : List KeyRow → KeyModifiers → KeyCode → Event
first_fit [] modifiers code = None
first_fit (row ∷ rows) modifiers code =
    if same_modifiers row.modifiers modifiers && same_key row.code code then row.event else first_fit rows modifiers code

-- the event of pressing a key
abbrev pub event_of_press : KeyModifiers → KeyCode → Event
event_of_press = first_fit key_table

-- the event of a key by the kind of the key event: only a press counts
abbrev pub event_of_key_kind : KeyEventKind → KeyModifiers → KeyCode → Event
event_of_key_kind Press modifiers code = event_of_press modifiers code
event_of_key_kind Repeat modifiers code = None
event_of_key_kind Release modifiers code = None

-- the event of a key event
abbrev pub event_of_key : KeyEvent → Event
event_of_key e = event_of_key_kind e.kind e.modifiers e.code

-- The event of the mouse at a row and column. Only the wheel and a press of the left button count.
abbrev pub event_of_mouse_kind : MouseEventKind → ℕ → ℕ → Event
event_of_mouse_kind mouse.ScrollUp row column = ScrollUp
event_of_mouse_kind mouse.ScrollDown row column = ScrollDown
event_of_mouse_kind (mouse.Down button.Left) row column = Click row column
event_of_mouse_kind (mouse.Down button.Right) row column = None
event_of_mouse_kind (mouse.Down button.Middle) row column = None
event_of_mouse_kind (mouse.Up b) row column = None
event_of_mouse_kind (mouse.Drag b) row column = None
event_of_mouse_kind mouse.Moved row column = None
event_of_mouse_kind mouse.Other row column = None

-- the event of a mouse event, with any modifiers
abbrev pub event_of_mouse : MouseEvent → Event
event_of_mouse e = event_of_mouse_kind e.kind e.row e.column

-- the event of a terminal event
abbrev pub event_of : TerminalEvent → Event
event_of (terminal.Key e) = event_of_key e
event_of (terminal.Mouse e) = event_of_mouse e
event_of terminal.Other = None
