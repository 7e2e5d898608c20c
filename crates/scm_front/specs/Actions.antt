-- The key table of the layer: what it does with each event of a terminal.
use Rattle.std.specs.Prelude.{ℕ, Bool, true, false, not, List, [], ◌∷◌, ◌&&◌, if◌then◌else◌}
use Rattle.std.specs.Char.{to_ascii_uppercase}
use Rattle.std.specs.List.{list_any}
use Rattle.scm_input.specs.KeyTable.{none, shift, control, char, same_modifiers, same_key, event_of}
use Rattle.scm_input.specs.declared.terminal.KeyModifiers.{KeyModifiers}
use Rattle.scm_input.specs.declared.terminal.KeyCode.{KeyCode}
use Rattle.scm_input.specs.declared.terminal.KeyCode.TheVariants as key
use Rattle.scm_input.specs.declared.terminal.KeyEvent.{KeyEvent}
use Rattle.scm_input.specs.declared.terminal.KeyEventKind.{KeyEventKind}
use Rattle.scm_input.specs.declared.terminal.KeyEventKind.TheVariants.{Press, Repeat, Release}
use Rattle.scm_input.specs.declared.terminal.MouseButton.TheVariants as button
use Rattle.scm_input.specs.declared.terminal.MouseEventKind.{MouseEventKind}
use Rattle.scm_input.specs.declared.terminal.MouseEventKind.TheVariants as mouse
use Rattle.scm_input.specs.declared.terminal.TerminalEvent.{TerminalEvent}
use Rattle.scm_input.specs.declared.terminal.TerminalEvent.TheVariants as terminal
use Rattle.scm_input.specs.declared.events.Event.TheVariants.{FocusNext, FocusPrev}
use Rattle.scm_front_items.specs.declared.items.Way.TheVariants.{Up, Down}
use Rattle.scm_front_items.specs.declared.places.Place.TheVariants.{First, Last, Section, File}
use Rattle.scm_front.specs.declared.asking.Typing.TheVariants.{Ask, Add, Erase, Leave}
use Rattle.scm_front.specs.declared.actions.Action.{Action}
use Rattle.scm_front.specs.declared.actions.Action.TheVariants.{Pass, Edit, Seek, Again, Go, Click, Drag, Range, Mark, Undo, Redo, Ignore}
use Rattle.scm_front.specs.declared.actions.OwnKey.{OwnKey}
use Rattle.scm_front.specs.declared.actions.OwnKey.TheVariants as own
use Rattle.scm_front.specs.declared.actions.Mode.{Mode}
use Rattle.scm_front.specs.declared.actions.Mode.TheVariants as modes

-- a row of the table: with exactly these modifiers, this key is this action
pub record ActionRow : Type 0 where
  pub modifiers : KeyModifiers
  pub code : KeyCode
  pub action : Action

-- a row of the table
abbrev pub by : KeyModifiers → KeyCode → Action → ActionRow
by modifiers code action = record { modifiers = modifiers; code = code; action = action }

-- the layer's own keys
abbrev pub own_keys : List ActionRow
own_keys =
    by none (char "/") (Edit Ask)
    ∷ by none (char "n") (Again Down)
    ∷ by shift (char "N") (Again Up)
    ∷ by none (char "v") Range
    ∷ by none (char "u") Undo
    ∷ by control (char "r") Redo
    ∷ []

-- the layer's keys that move the selection
abbrev pub moving_keys : List ActionRow
moving_keys =
    by none (char "g") (Go First)
    ∷ by none key.Home (Go First)
    ∷ by shift (char "G") (Go Last)
    ∷ by none key.End (Go Last)
    ∷ by none (char "]") (Go (Section Down))
    ∷ by none (char "[") (Go (Section Up))
    ∷ by none (char "}") (Go (File Down))
    ∷ by none (char "{") (Go (File Up))
    ∷ by control (char "n") (Pass FocusNext)
    ∷ by control (char "p") (Pass FocusPrev)
    ∷ []

-- the keys that come before these while a range is begun
abbrev pub ranging_keys : List ActionRow
ranging_keys = by none (char " ") Mark ∷ by none key.Esc Range ∷ []

-- the keys that type no character while a text is asked for
abbrev pub asking_keys : List ActionRow
asking_keys =
    by none key.Enter Seek
    ∷ by none key.Esc (Edit Leave)
    ∷ by control (char "c") (Edit Leave)
    ∷ by control (char "u") (Edit Erase)
    ∷ []

-- the action of the first row that matches, or else `otherwise`
abbrev pub first_action : List ActionRow → KeyModifiers → KeyCode → Action → Action
first_action [] modifiers code otherwise = otherwise
first_action (row ∷ rows) modifiers code otherwise =
    if same_modifiers row.modifiers modifiers && same_key row.code code then row.action
    else first_action rows modifiers code otherwise

-- A character is added if it is typed without modifiers. With shift its capital is added: the decoder says of some capitals that the small
-- letter is typed with shift.
abbrev pub adding : KeyModifiers → KeyCode → Action
adding modifiers (key.Char c) =
    if same_modifiers none modifiers then Edit (Add c) else if same_modifiers shift modifiers then Edit (Add (to_ascii_uppercase c)) else Ignore
adding modifiers key.Up = Ignore
adding modifiers key.Down = Ignore
adding modifiers key.Left = Ignore
adding modifiers key.Right = Ignore
adding modifiers key.PageUp = Ignore
adding modifiers key.PageDown = Ignore
adding modifiers key.Home = Ignore
adding modifiers key.End = Ignore
adding modifiers key.Enter = Ignore
adding modifiers key.Esc = Ignore
adding modifiers key.Other = Ignore

-- the action of pressing a key while a text is asked for
abbrev pub asking_action : KeyModifiers → KeyCode → Action
asking_action modifiers code = first_action asking_keys modifiers code (adding modifiers code)

-- the action of a key while a text is asked for, by the kind of the key event: only a press counts
abbrev pub asking_key : KeyEventKind → KeyModifiers → KeyCode → Action
asking_key Press modifiers code = asking_action modifiers code
asking_key Repeat modifiers code = Ignore
asking_key Release modifiers code = Ignore

-- the action of pressing one of the layer's own keys, or `pass`
abbrev pub own_action : KeyModifiers → KeyCode → Action → Action
own_action modifiers code pass = first_action own_keys modifiers code (first_action moving_keys modifiers code pass)

-- the same while a range is begun
abbrev pub ranging_action : KeyModifiers → KeyCode → Action → Action
ranging_action modifiers code pass = first_action ranging_keys modifiers code (own_action modifiers code pass)

-- whether one of the user's own keys is `code` with exactly `modifiers`
abbrev pub is_pressed : KeyModifiers → KeyCode → OwnKey → Bool
is_pressed modifiers code (own.Key k held action) = same_modifiers held modifiers && same_key k code
is_pressed modifiers code own.ClickSelects = false

-- whether an event is one of the user's own keys
abbrev pub has_key : List OwnKey → TerminalEvent → Bool
has_key keys (terminal.Key e) = list_any (is_pressed e.modifiers e.code) keys
has_key keys (terminal.Mouse e) = false
has_key keys terminal.Other = false

-- the action of one of the user's own keys, or else `otherwise`
abbrev pub action_by : OwnKey → KeyModifiers → KeyCode → Action → Action
action_by (own.Key k held action) modifiers code otherwise = if same_modifiers held modifiers && same_key k code then action else otherwise
action_by own.ClickSelects modifiers code otherwise = otherwise

-- the action of the last of the user's own keys that matches, or else `otherwise`
abbrev pub last_action : List OwnKey → KeyModifiers → KeyCode → Action → Action
last_action [] modifiers code otherwise = otherwise
last_action (k ∷ ks) modifiers code otherwise = last_action ks modifiers code (action_by k modifiers code otherwise)

-- the action of the layer's own keys, with or without a range
abbrev pub built_in : Bool → KeyModifiers → KeyCode → Action → Action
built_in is_ranging modifiers code pass = if is_ranging then ranging_action modifiers code pass else own_action modifiers code pass

-- the action of pressing a key that the layer hears first: the user's own keys come before the layer's
abbrev pub free_press : Bool → List OwnKey → KeyModifiers → KeyCode → Action → Action
free_press is_ranging ks modifiers code pass = last_action ks modifiers code (built_in is_ranging modifiers code pass)

abbrev pub free_by : KeyEventKind → Bool → List OwnKey → KeyModifiers → KeyCode → Action → Action
free_by Press is_ranging ks modifiers code pass = free_press is_ranging ks modifiers code pass
free_by Repeat is_ranging ks modifiers code pass = pass
free_by Release is_ranging ks modifiers code pass = pass

-- by the kind of the key event: only a press is a key of the layer's
abbrev pub free_key : Bool → List OwnKey → KeyEvent → Action → Action
free_key is_ranging ks e pass = free_by e.kind is_ranging ks e.modifiers e.code pass

-- the action if it is an event of the session, or else `pass`
abbrev pub session_action : Action → Action → Action
session_action (Pass event) pass = Pass event
session_action (Edit typing) pass = pass
session_action Seek pass = pass
session_action (Again way) pass = pass
session_action (Go place) pass = pass
session_action (Click row column) pass = pass
session_action (Drag row column) pass = pass
session_action Range pass = pass
session_action Mark pass = pass
session_action Undo pass = pass
session_action Redo pass = pass
session_action Ignore pass = pass

abbrev pub dialog_by : KeyEventKind → List OwnKey → KeyModifiers → KeyCode → Action → Action
dialog_by Press ks modifiers code pass = session_action (last_action ks modifiers code pass) pass
dialog_by Repeat ks modifiers code pass = pass
dialog_by Release ks modifiers code pass = pass

-- the action of a key while a dialog is open: of the user's own keys only those count that are events of the session
abbrev pub dialog_key : List OwnKey → KeyEvent → Action → Action
dialog_key ks e pass = dialog_by e.kind ks e.modifiers e.code pass

-- The action of a key. While a text is asked for, the session hears no key. While a dialog is open, the layer has no keys of its own.
abbrev pub key_action : Mode → List OwnKey → KeyEvent → Action
key_action modes.Asking ks e = asking_key e.kind e.modifiers e.code
key_action modes.Dialog ks e = dialog_key ks e (Pass (event_of (terminal.Key e)))
key_action modes.Ranging ks e = free_key true ks e (Pass (event_of (terminal.Key e)))
key_action modes.Free ks e = free_key false ks e (Pass (event_of (terminal.Key e)))

-- whether one of the user's own keys says that a click selects first
abbrev pub is_selecting : OwnKey → Bool
is_selecting (own.Key k held action) = false
is_selecting own.ClickSelects = true

-- whether one click acts on a box: no dialog is open, and no key says otherwise
abbrev pub acts_at_once : Mode → List OwnKey → Bool
acts_at_once modes.Dialog ks = false
acts_at_once modes.Asking ks = not (list_any is_selecting ks)
acts_at_once modes.Ranging ks = not (list_any is_selecting ks)
acts_at_once modes.Free ks = not (list_any is_selecting ks)

-- whether a drag is the layer's: no dialog is open, and no text is asked for
abbrev pub hears_drags : Mode → Bool
hears_drags modes.Asking = false
hears_drags modes.Dialog = false
hears_drags modes.Ranging = true
hears_drags modes.Free = true

-- the action of the mouse: a click, if it acts on boxes at once, a drag, if the layer hears it, or else `pass`
abbrev pub mouse_action : Bool → Bool → MouseEventKind → ℕ → ℕ → Action → Action
mouse_action is_acting is_dragging (mouse.Down button.Left) row column pass = if is_acting then Click row column else pass
mouse_action is_acting is_dragging (mouse.Down button.Right) row column pass = pass
mouse_action is_acting is_dragging (mouse.Down button.Middle) row column pass = pass
mouse_action is_acting is_dragging (mouse.Up b) row column pass = pass
mouse_action is_acting is_dragging (mouse.Drag button.Left) row column pass = if is_dragging then Drag row column else pass
mouse_action is_acting is_dragging (mouse.Drag button.Right) row column pass = pass
mouse_action is_acting is_dragging (mouse.Drag button.Middle) row column pass = pass
mouse_action is_acting is_dragging mouse.Moved row column pass = pass
mouse_action is_acting is_dragging mouse.ScrollUp row column pass = pass
mouse_action is_acting is_dragging mouse.ScrollDown row column pass = pass
mouse_action is_acting is_dragging mouse.Other row column pass = pass

-- the action of an event of the terminal: the session hears the mouse, but one click may act on a box, and a drag may make a range
abbrev pub action_of : Mode → List OwnKey → TerminalEvent → Action
action_of mode ks (terminal.Key e) = key_action mode ks e
action_of mode ks (terminal.Mouse e) = mouse_action (acts_at_once mode ks) (hears_drags mode) e.kind e.row e.column (Pass (event_of (terminal.Mouse e)))
action_of mode ks terminal.Other = Pass (event_of terminal.Other)
