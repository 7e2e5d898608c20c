-- Examples, computed from the definitions.
use Rattle.std.proofs.Common.{◌≡◌, ℕ, true, false, List, [], ◌∷◌, codes, refl, Some, None}
use Rattle.scm_types.specs.declared.file.File.{File}
use Rattle.scm_types.specs.declared.file_mode.FileMode.TheVariants.{Unix}
use Rattle.scm_types.specs.declared.line.SectionChangedLine.{SectionChangedLine}
use Rattle.scm_types.specs.declared.line.ChangeType.TheVariants.{Added}
use Rattle.scm_types.specs.declared.section.Section.TheVariants.{Unchanged, Changed}
use Rattle.scm_input.specs.KeyTable.{none, shift, control, char, event_of}
use Rattle.scm_input.specs.declared.events.Event.TheVariants.{ToggleItem, FocusPrevPage}
use Rattle.scm_input.specs.declared.terminal.KeyModifiers.{KeyModifiers}
use Rattle.scm_input.specs.declared.terminal.KeyCode.{KeyCode}
use Rattle.scm_input.specs.declared.terminal.KeyCode.TheVariants.{Esc, Home, End}
use Rattle.scm_input.specs.declared.terminal.KeyEventKind.TheVariants.{Press}
use Rattle.scm_input.specs.declared.terminal.TerminalEvent.{TerminalEvent}
use Rattle.scm_input.specs.declared.terminal.TerminalEvent.TheVariants.{Key}
use Rattle.scm_selection.specs.KeyLists.{file_key, section_key, line_key}
use Rattle.scm_front_items.specs.declared.items.Way.TheVariants.{Up, Down}
use Rattle.scm_front_items.specs.declared.places.Place.TheVariants.{First, Last}
use Rattle.scm_front.specs.declared.asking.Typing.TheVariants.{Add, Erase}
use Rattle.scm_front.specs.declared.actions.Action.{Action}
use Rattle.scm_front.specs.declared.actions.Action.TheVariants.{Pass, Edit, Again, Go, Range, Mark, Undo, Redo, Ignore}
use Rattle.scm_front.specs.declared.actions.Mode.TheVariants as modes
use Rattle.scm_front.specs.declared.actions.OwnKey.{OwnKey}
use Rattle.scm_front.specs.declared.actions.OwnKey.TheVariants as owns
use Rattle.scm_front.specs.Actions.{action_of}
use Rattle.scm_front.specs.Fronts.{search_word}
use Rattle.scm_front.specs.declared.kept.Notice.TheVariants as notices
use Rattle.scm_front_items.specs.Search.{item_around, item_towards}
use Rattle.scm_front_items.specs.Ranges.{lines_between, mark_for}
use Rattle.scm_front_items.specs.Runs.{marks_of_files, marks_with}

-- ---- a search in one file `f`: context `two`, then the lines `one`, `Two`, `three`

abbrev line : List ℕ → SectionChangedLine
line text = record { is_checked = false; change_type = Added; line = text }

abbrev files : List File
files = record {
  old_path = None;
  path = codes "f";
  file_mode = Unix 33188;
  sections =
      Unchanged (codes "two" ∷ [])
      ∷ Changed (line (codes "one") ∷ line (codes "Two") ∷ line (codes "three") ∷ [])
      ∷ [];
} ∷ []

-- from the file, the first line with an `o` is line 0, and from there the next one is line 1, of which the capital does not matter
first_o : item_towards Down (codes "o") files (file_key 0) ≡ Some (line_key 0 1 0)
first_o = refl

next_two : item_towards Down (codes "two") files (line_key 0 1 0) ≡ Some (line_key 0 1 1)
next_two = refl

-- a pattern with a capital is found exactly
capital_two : item_towards Down (codes "Two") files (section_key 0 1) ≡ Some (line_key 0 1 1)
capital_two = refl

no_capitals : item_towards Down (codes "TWO") files (section_key 0 1) ≡ None
no_capitals = refl

-- the selected line itself is not found again, and nothing stands below the last line
no_other : item_towards Down (codes "two") files (line_key 0 1 1) ≡ None
no_other = refl

-- upwards the nearest one is the last above the selection; a file is found by its path
up_o : item_towards Up (codes "o") files (line_key 0 1 2) ≡ Some (line_key 0 1 1)
up_o = refl

up_file : item_towards Up (codes "F") files (line_key 0 1 2) ≡ None
up_file = refl

up_path : item_towards Up (codes "f") files (line_key 0 1 2) ≡ Some (file_key 0)
up_path = refl

-- the empty pattern is nowhere
nothing : item_towards Down [] files (file_key 0) ≡ None
nothing = refl

-- at its end a search goes on at the other end, and may find the selected item
around_o : item_around Down (codes "o") files (line_key 0 1 2) ≡ Some (line_key 0 1 0)
around_o = refl

around_two : item_around Down (codes "two") files (line_key 0 1 1) ≡ Some (line_key 0 1 1)
around_two = refl

around_up : item_around Up (codes "three") files (file_key 0) ≡ Some (line_key 0 1 2)
around_up = refl

around_capitals : item_around Down (codes "TWO") files (section_key 0 1) ≡ None
around_capitals = refl

-- and says so
word_on : search_word Down (line_key 0 1 0) (line_key 0 1 1) ≡ notices.Nothing
word_on = refl

word_around : search_word Down (line_key 0 1 1) (line_key 0 1 1) ≡ notices.FromTop
word_around = refl

word_up : search_word Up (file_key 0) (line_key 0 1 2) ≡ notices.FromEnd
word_up = refl

-- ---- keys

abbrev pressed : KeyModifiers → KeyCode → TerminalEvent
pressed modifiers code = Key (record { code = code; modifiers = modifiers; kind = Press })

-- `n` is the layer's, but is typed while a text is asked for, and is the session's while a dialog is open
again : action_of modes.Free [] (pressed none (char "n")) ≡ Again Down
again = refl

home : action_of modes.Free [] (pressed none Home) ≡ Go First
home = refl

end_in_a_range : action_of modes.Ranging [] (pressed none End) ≡ Go Last
end_in_a_range = refl

control_and_home : action_of modes.Free [] (pressed control Home) ≡ Pass (event_of (pressed control Home))
control_and_home = refl

asked_home : action_of modes.Asking [] (pressed none Home) ≡ Ignore
asked_home = refl

-- space toggles in the session, and is typed while a text is asked for
space : action_of modes.Free [] (pressed none (char " ")) ≡ Pass ToggleItem
space = refl

-- control and `u` is a page in the session, and empties a text that is asked for
page : action_of modes.Free [] (pressed control (char "u")) ≡ Pass FocusPrevPage
page = refl

typed_n : action_of modes.Asking [] (pressed none (char "n")) ≡ Edit (Add 110)
typed_n = refl

typed_space : action_of modes.Asking [] (pressed none (char " ")) ≡ Edit (Add 32)
typed_space = refl

emptied : action_of modes.Asking [] (pressed control (char "u")) ≡ Edit Erase
emptied = refl

-- while a range is begun, space marks its lines, and esc ends it; else both are the session's
range_space : action_of modes.Ranging [] (pressed none (char " ")) ≡ Mark
range_space = refl

range_esc : action_of modes.Ranging [] (pressed none Esc) ≡ Range
range_esc = refl

undo_u : action_of modes.Ranging [] (pressed none (char "u")) ≡ Undo
undo_u = refl

redo_r : action_of modes.Free [] (pressed control (char "r")) ≡ Redo
redo_r = refl

-- a key of the user's own comes before the layer's, and of two that are equal the last one counts
abbrev own : KeyCode → Action → OwnKey
own code action = owns.Key code none action

own_n : action_of modes.Free (own (char "n") Undo ∷ []) (pressed none (char "n")) ≡ Undo
own_n = refl

last_n : action_of modes.Free (own (char "n") Undo ∷ own (char "n") Redo ∷ []) (pressed none (char "n")) ≡ Redo
last_n = refl

-- under a dialog a key of the user's own counts if it is an event, and else is the session's
dialog_event : action_of modes.Dialog (own (char "z") (Pass ToggleItem) ∷ []) (pressed none (char "z")) ≡ Pass ToggleItem
dialog_event = refl

dialog_undo : action_of modes.Dialog (own (char "z") Undo ∷ []) (pressed none (char "z")) ≡ Pass (event_of (pressed none (char "z")))
dialog_undo = refl

-- a letter with shift is typed as its capital: the decoder names H so
typed_capital : action_of modes.Asking [] (pressed shift (char "h")) ≡ Edit (Add 72)
typed_capital = refl

typed_other_capital : action_of modes.Asking [] (pressed shift (char "N")) ≡ Edit (Add 78)
typed_other_capital = refl

-- ---- ranges, and marks that were

-- a range has both ends, upwards as downwards, and gets the other mark than its first line has
range_down : lines_between (line_key 0 1 0) (line_key 0 1 1) files ≡ line_key 0 1 0 ∷ line_key 0 1 1 ∷ []
range_down = refl

range_up : lines_between (line_key 0 1 2) (line_key 0 1 1) files ≡ line_key 0 1 1 ∷ line_key 0 1 2 ∷ []
range_up = refl

range_mark : mark_for files (line_key 0 1 0 ∷ line_key 0 1 1 ∷ []) ≡ true
range_mark = refl

-- a step with the mark of line 1 alone changes that mark alone
restored_line : marks_with (record { runs = record { file = 0; section = 1; first = 1; marks = true ∷ [] } ∷ []; bytes = 65 }) (marks_of_files files)
    ≡ ([] ∷ (false ∷ true ∷ false ∷ []) ∷ []) ∷ []
restored_line = refl
