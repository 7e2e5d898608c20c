-- The words of what a terminal sends.
use Rattle.std.specs.Prelude.{ℕ, List, [], ◌++◌, Option, None, option_to_list, codes, Bool, true, false}
use Rattle.std.specs.List.{flat_map}
use Rattle.std.specs.Fmt.{decimal}
use Rattle.scm_input.specs.KeyTable.{event_of}
use Rattle.scm_input.specs.declared.events.Event.{Event}
use Rattle.scm_input.specs.declared.events.Event.TheVariants as events
use Rattle.scm_input.specs.declared.terminal.TerminalEvent.{TerminalEvent}
use Rattle.scm_terminal.specs.declared.decoder.Decoder.{Decoder}
use Rattle.scm_terminal.specs.Decoders.{Adds}
use Rattle.scm_record.specs.Typed.{SilenceMeans}

-- ---- words of events

-- The word of `FocusOuter`, which may fold a section.
abbrev pub outer_name : Bool → List ℕ
outer_name true = codes "h"
outer_name false = codes "shift-h"

-- The word of an event, without the place of a click.
abbrev pub name_of : Event → List ℕ
name_of events.None = codes "none"
name_of events.QuitAccept = codes "c"
name_of events.QuitCancel = codes "q"
name_of events.QuitInterrupt = codes "ctrl-c"
name_of events.QuitEscape = codes "esc"
name_of (events.TakeScreenshot place) = codes "shot"
name_of events.Redraw = codes "redraw"
name_of events.EnsureSelectionInViewport = codes "ensure"
name_of events.ScrollUp = codes "wheel-up"
name_of events.ScrollDown = codes "wheel-down"
name_of events.PageUp = codes "ctrl-b"
name_of events.PageDown = codes "ctrl-f"
name_of events.FocusPrev = codes "k"
name_of events.FocusPrevSameKind = codes "pageup"
name_of events.FocusPrevPage = codes "ctrl-u"
name_of events.FocusNext = codes "j"
name_of events.FocusNextSameKind = codes "pagedown"
name_of events.FocusNextPage = codes "ctrl-d"
name_of events.FocusInner = codes "l"
name_of (events.FocusOuter fold) = outer_name fold
name_of events.ToggleItem = codes "space"
name_of events.ToggleItemAndAdvance = codes "enter"
name_of events.ToggleAll = codes "a"
name_of events.ToggleAllUniform = codes "shift-A"
name_of events.ExpandItem = codes "f"
name_of events.ExpandAll = codes "shift-F"
name_of (events.Click row column) = codes "click"
name_of events.ToggleCommitViewMode = codes "view"
name_of events.EditCommitMessage = codes "e"
name_of events.Help = codes "?"

-- The place of a click, as its word has it: `:ROW:COLUMN`. Empty for any other event.
abbrev pub place_of : Event → List ℕ
place_of (events.Click row column) = codes ":" ++ (decimal row ++ (codes ":" ++ decimal column))
place_of events.None = []
place_of events.QuitAccept = []
place_of events.QuitCancel = []
place_of events.QuitInterrupt = []
place_of events.QuitEscape = []
place_of (events.TakeScreenshot place) = []
place_of events.Redraw = []
place_of events.EnsureSelectionInViewport = []
place_of events.ScrollUp = []
place_of events.ScrollDown = []
place_of events.PageUp = []
place_of events.PageDown = []
place_of events.FocusPrev = []
place_of events.FocusPrevSameKind = []
place_of events.FocusPrevPage = []
place_of events.FocusNext = []
place_of events.FocusNextSameKind = []
place_of events.FocusNextPage = []
place_of events.FocusInner = []
place_of (events.FocusOuter fold) = []
place_of events.ToggleItem = []
place_of events.ToggleItemAndAdvance = []
place_of events.ToggleAll = []
place_of events.ToggleAllUniform = []
place_of events.ExpandItem = []
place_of events.ExpandAll = []
place_of events.ToggleCommitViewMode = []
place_of events.EditCommitMessage = []
place_of events.Help = []

-- The word of an event, with a space behind it.
abbrev pub word_of_event : Event → List ℕ
word_of_event event = name_of event ++ (place_of event ++ codes " ")

-- The words of terminal events, by the key table: each with a space behind it. A key that means nothing is `none`.
abbrev pub words_of_events : List TerminalEvent → List ℕ
words_of_events list = flat_map (λ (event : TerminalEvent). word_of_event (event_of event)) list

-- The words of events: each with a space behind it.
abbrev pub words_of_list : List Event → List ℕ
words_of_list list = flat_map (λ (event : Event). word_of_event event) list

-- ---- what a decoder hears

-- The decoder reads bytes, which complete these events.
abbrev pub HearsBytes : List ℕ → Decoder → Decoder → List TerminalEvent → Type 0
HearsBytes bytes old new list = Adds old new bytes [] list

-- The terminal is silent, which completes one event at most.
pub data HearsSilence (old new : Decoder) : List TerminalEvent → Type 0 where
  silent : (event : Option TerminalEvent) → SilenceMeans old new event → HearsSilence old new (option_to_list event)
