-- Keys that the key table lacks. A front end may want them, in the order in which they were typed.
use Rattle.std.specs.Prelude.{◌≡◌, ℕ, ◌-◌, ◌<◌, ◌==◌, ◌&&◌, ◌||◌, Bool, true, false, nat_le, List, [], ◌∷◌, length, take, if◌then◌else◌}
use Rattle.scm_input.specs.declared.events.Event.{Event}
use Rattle.scm_input.specs.declared.events.Event.TheVariants as events
use Rattle.scm_input.specs.declared.terminal.KeyCode.{KeyCode}
use Rattle.scm_input.specs.declared.terminal.KeyCode.TheVariants as key
use Rattle.scm_input.specs.declared.terminal.KeyModifiers.{KeyModifiers}
use Rattle.scm_input.specs.declared.terminal.TerminalEvent.{TerminalEvent}
use Rattle.scm_input.specs.declared.terminal.TerminalEvent.TheVariants as terminal
use Rattle.scm_input.specs.KeyTable.{control, event_of, none, same_modifiers, shift}
use Rattle.scm_terminal.specs.declared.decoder.Decoder.{Decoder}
use Rattle.scm_terminal.specs.Decoders.{Adds}

-- ---- the code of a key

-- Whether the event is `None`, that of a key that is not in the table.
abbrev pub is_no_event : Event → Bool
is_no_event events.None = true
is_no_event events.QuitAccept = false
is_no_event events.QuitCancel = false
is_no_event events.QuitInterrupt = false
is_no_event events.QuitEscape = false
is_no_event (events.TakeScreenshot shot) = false
is_no_event events.Redraw = false
is_no_event events.EnsureSelectionInViewport = false
is_no_event events.ScrollUp = false
is_no_event events.ScrollDown = false
is_no_event events.PageUp = false
is_no_event events.PageDown = false
is_no_event events.FocusPrev = false
is_no_event events.FocusPrevSameKind = false
is_no_event events.FocusPrevPage = false
is_no_event events.FocusNext = false
is_no_event events.FocusNextSameKind = false
is_no_event events.FocusNextPage = false
is_no_event events.FocusInner = false
is_no_event (events.FocusOuter fold_section) = false
is_no_event events.ToggleItem = false
is_no_event events.ToggleItemAndAdvance = false
is_no_event events.ToggleAll = false
is_no_event events.ToggleAllUniform = false
is_no_event events.ExpandItem = false
is_no_event events.ExpandAll = false
is_no_event (events.Click row column) = false
is_no_event events.ToggleCommitViewMode = false
is_no_event events.EditCommitMessage = false
is_no_event events.Help = false

-- Whether the character is a small letter of ASCII.
abbrev pub is_letter : ℕ → Bool
is_letter c = nat_le 97 c && nat_le c 122

-- The code of a character's key: the character, or with control the control character of a letter. 0 with other modifiers.
abbrev pub code_of_char : KeyModifiers → ℕ → ℕ
code_of_char modifiers c =
    if same_modifiers none modifiers || same_modifiers shift modifiers then c
    else if same_modifiers control modifiers && is_letter c then c - 96
    else 0

-- The code of a key: that of its character, and 0 of a key without one.
abbrev pub code_of_key : KeyModifiers → KeyCode → ℕ
code_of_key modifiers (key.Char c) = code_of_char modifiers c
code_of_key modifiers key.Up = 0
code_of_key modifiers key.Down = 0
code_of_key modifiers key.Left = 0
code_of_key modifiers key.Right = 0
code_of_key modifiers key.PageUp = 0
code_of_key modifiers key.PageDown = 0
code_of_key modifiers key.Home = 0
code_of_key modifiers key.End = 0
code_of_key modifiers key.Enter = 0
code_of_key modifiers key.Esc = 0
code_of_key modifiers key.Other = 0

-- The code of a terminal event for a front end: that of a key that is not in the table. 0 of any other event.
abbrev pub front_key : TerminalEvent → ℕ
front_key (terminal.Key e) = if is_no_event (event_of (terminal.Key e)) then code_of_key e.modifiers e.code else 0
front_key (terminal.Mouse e) = 0
front_key terminal.Other = 0

-- ---- the first key among events

-- The code of the first key for a front end among the events. 0 without one.
abbrev pub first_front_key : List TerminalEvent → ℕ
first_front_key [] = 0
first_front_key (e ∷ es) = if front_key e == 0 then first_front_key es else front_key e

-- A decoder reads the bytes, and the first key for a front end among their events has the code `key`.
pub record FindsKey (old : Decoder) (bytes : List ℕ) (key : ℕ) : Type 0 where
  -- the decoder after them
  pub new : Decoder
  -- their events
  pub events : List TerminalEvent
  pub adds : Adds old new bytes [] events
  pub is : key ≡ first_front_key events

-- The first `taken` bytes end where they complete the first key for a front end, which has the code `key`. With the code 0
-- they are all bytes, and complete no such key.
pub record StopsAt (old : Decoder) (bytes : List ℕ) (taken key : ℕ) : Type 0 where
  pub finds : FindsKey old (take taken bytes) key
  pub all : key ≡ 0 → taken ≡ length bytes
  -- fewer bytes complete no such key
  pub first : 0 < key → FindsKey old (take (taken - 1) bytes) 0
