-- Steps that are easily taken for others, computed from the definitions.
use Rattle.std.proofs.Common.{◌≡◌, ℕ, ◌+◌, ◌-◌, ◌∷◌, [], List, Option, Some, None, true, false, cond, nat_eq, replicate, refl}
use Rattle.scm_types.specs.Limits.{max_items, max_scroll}
use Rattle.scm_types.specs.declared.file_mode.FileMode.TheVariants.{Unix}
use Rattle.scm_types.specs.declared.line.SectionChangedLine.{SectionChangedLine}
use Rattle.scm_types.specs.declared.line.ChangeType.TheVariants.{Added}
use Rattle.scm_types.specs.declared.section.Section.{Section}
use Rattle.scm_types.specs.declared.section.Section.TheVariants.{Unchanged, Changed}
use Rattle.scm_types.specs.declared.state.RecordState.{RecordState}
use Rattle.scm_types.specs.declared.keys.SelectionKey.{SelectionKey}
use Rattle.scm_types.specs.declared.keys.SelectionKey.TheVariants as keys
use Rattle.scm_widgets.specs.declared.ids.ComponentId.{ComponentId}
use Rattle.scm_widgets.specs.declared.ids.ComponentId.TheVariants as ids
use Rattle.scm_widgets.specs.declared.ids.QuitDialogButtonId.TheVariants.{Quit, GoBack}
use Rattle.scm_worked_examples.proofs.Computing.{documents, owners}
use Rattle.scm_input.specs.declared.inputs.TerminalKind.TheVariants.{Testing}
use Rattle.scm_input.specs.declared.events.Event.{Event}
use Rattle.scm_input.specs.declared.events.Event.TheVariants as events
use Rattle.scm_selection.specs.KeyLists.{file_key, section_key, line_key}
use Rattle.scm_record.specs.Session.{Session, start, at_key, with_pushed, with_ensure, with_dialog, with_help, with_menu, with_scroll, after_toggle}
use Rattle.scm_record.specs.Frames.{Scene, scene_of, frame_of}
use Rattle.scm_record.specs.Change.{Change, stays, cancels, edits}
use Rattle.scm_record.specs.Dialogs.{new_quit_dialog}
use Rattle.scm_record.specs.Step.{change}

-- ---- a file with one section of ten lines, drawn on eight rows

abbrev line : SectionChangedLine
line = record { is_checked = false; change_type = Added; line = [] }

abbrev letter : Option (List ℕ) → RecordState
letter message = record {
  is_read_only = false;
  commits = record { message = message } ∷ record { message = None } ∷ [];
  files = record { old_path = None; path = []; file_mode = Unix 33188; sections = Changed (replicate 10 line) ∷ [] } ∷ [];
}

abbrev begun : Session
begun = start (letter None)

-- with all keys visible
abbrev at : SelectionKey → Session
at key = at_key (at_key begun (line_key 0 0 0)) key

-- the file on row 1, its section on row 2, its lines from row 3 on
abbrev row_of : SelectionKey → Option (ℕ × ℕ)
row_of keys.None = None
row_of (keys.File key) = Some (1, 12)
row_of (keys.Section key) = Some (2, 11)
row_of (keys.Line key) = Some (3 + key.line_idx, 1)

-- a frame of 24 by 8 in which a part of the screen owns all places
abbrev scene_with : Option ℕ → ℕ → Option ComponentId → Scene
scene_with open_menu extent owner = record {
  width = 24;
  height = 8;
  frame = record { rows = []; owner = λ y x. owner; span = row_of; extent = extent };
  open_menu = open_menu;
}

abbrev plain : Scene
plain = scene_with None 12 None

abbrev hit_of : ComponentId → Scene
hit_of id = scene_with None 12 (Some id)

abbrev click : Event
click = events.Click 3 10

-- ---- help and the quit dialog

-- a session with both open
abbrev covered : Session
covered = with_help (with_dialog begun (Some (new_quit_dialog 0 1))) true

cancel-closes_help : change plain covered events.QuitCancel ≡ stays (with_help covered false)
cancel-closes_help = refl

escape-closes_help : change plain covered events.QuitEscape ≡ stays (with_help covered false)
escape-closes_help = refl

toggle-closes_help : change plain covered events.ToggleItem ≡ stays (with_help covered false)
toggle-closes_help = refl

accept-waits : change plain covered events.QuitAccept ≡ stays covered
accept-waits = refl

interrupt-gives_up : change plain covered events.QuitInterrupt ≡ cancels covered
interrupt-gives_up = refl

-- with help alone an interrupt asks under it
interrupt-asks : change plain (with_help (start (letter (Some (97 ∷ [])))) true) events.QuitInterrupt ≡ stays (with_dialog (with_help (start (letter (Some (97 ∷ [])))) true) (Some (new_quit_dialog 1 0)))
interrupt-asks = refl

-- ---- clicks

-- the file, in the view of the second commit
abbrev other_file : SelectionKey
other_file = keys.File (record { commit_idx = 1; file_idx = 0 })

-- an item's event is that of the menu in the frame last drawn, whatever is open now
item-is_last_drawn : change (scene_with (Some 0) 12 (Some (ids.MenuItem 1))) (with_menu begun (Some 1)) click ≡ stays (with_pushed begun events.QuitCancel)
unfolding max_items max_scroll
item-is_last_drawn = refl

-- a title opens its menu, or closes it
title-opens : change (hit_of (ids.Menu 2)) (with_menu begun (Some 1)) click ≡ stays (with_menu begun (Some 2))
unfolding max_items max_scroll
title-opens = refl

title-closes : change (hit_of (ids.Menu 2)) (with_menu begun (Some 2)) click ≡ stays begun
unfolding max_items max_scroll
title-closes = refl

-- a box of another key selects it, and pushes nothing
box-selects : change (hit_of (ids.ToggleBox (line_key 0 0 4))) (at (line_key 0 0 3)) click ≡ stays (at_key (at (line_key 0 0 3)) (line_key 0 0 4))
unfolding max_items max_scroll
box-selects = refl

box-toggles : change (hit_of (ids.ToggleBox (line_key 0 0 4))) (at (line_key 0 0 4)) click ≡ stays (after_toggle (at (line_key 0 0 4)))
unfolding max_items max_scroll
box-toggles = refl

-- the box of a file in the second view toggles the same file
other_view-toggles : (change (hit_of (ids.ToggleBox other_file)) (at other_file) click).session.shown.state.files ≡ (after_toggle (at (file_key 0))).shown.state.files
unfolding max_items max_scroll
other_view-toggles = refl

-- a click goes by the current scroll, and off the screen it hits nothing
abbrev on_row_five : Scene
on_row_five = record {
  width = 24;
  height = 8;
  frame = record { rows = []; owner = λ y x. cond (nat_eq y 5) (Some (ids.SelectableItem (line_key 0 0 2))) None; span = row_of; extent = 12 };
  open_menu = None;
}

click-scrolled : change on_row_five (with_scroll begun 2) click ≡ stays (at_key (with_scroll begun 2) (line_key 0 0 2))
unfolding max_items max_scroll
click-scrolled = refl

click-off : change (hit_of (ids.QuitDialogButton Quit)) begun (events.Click 8 0) ≡ stays begun
unfolding max_items max_scroll
click-off = refl

-- on a screen of 80 by 24: the last row and column are hit, those after them aren't
abbrev wide : Scene
wide = record (hit_of (ids.QuitDialogButton Quit)) { width = 80; height = 24 }

click-last : change wide begun (events.Click 23 79) ≡ cancels begun
unfolding max_items max_scroll
click-last = refl

click-below : change wide begun (events.Click 24 0) ≡ stays begun
unfolding max_items max_scroll
click-below = refl

click-beside : change wide begun (events.Click 0 80) ≡ stays begun
unfolding max_items max_scroll
click-beside = refl

go_back-closes : change (hit_of (ids.QuitDialogButton GoBack)) (with_dialog begun (Some (new_quit_dialog 0 1))) click ≡ stays begun
unfolding max_items max_scroll
go_back-closes = refl

-- a button edits also while the quit dialog is open, but the key doesn't
abbrev said : Session
said = with_dialog (start (letter (Some (97 ∷ [])))) (Some (new_quit_dialog 1 0))

button-edits : change (hit_of (ids.CommitEditMessageButton 0)) said click ≡ edits 0 (with_pushed said events.Redraw)
unfolding max_items max_scroll
button-edits = refl

key-edits_nothing : change plain said events.EditCommitMessage ≡ stays said
key-edits_nothing = refl

-- the second commit has no message: the screen is cleared all the same
other-button-clears : change (hit_of (ids.CommitEditMessageButton 1)) said click ≡ stays (with_pushed said events.Redraw)
unfolding max_items max_scroll
other-button-clears = refl

-- ---- clearing

-- the screen is cleared, and nothing else: what is shown, and how far it is scrolled, stays
redraw-clears : change plain begun events.Redraw ≡ stays (record begun { cleared = true })
redraw-clears = refl

-- ---- scrolling

-- also a scroll up is held: here all that is drawn spans three rows
up-is_held : change (scene_with None 3 None) (with_scroll begun 9) events.ScrollUp ≡ stays (with_scroll begun 2)
unfolding max_items max_scroll
up-is_held = refl

page_down-is_held : change plain (with_scroll begun 8) events.PageDown ≡ stays (with_scroll begun 11)
unfolding max_items max_scroll
page_down-is_held = refl

-- as far down as one may scroll, of a document that goes on
scroll-ends : change (scene_with None (max_scroll + 8000000) None) (with_scroll begun max_scroll) events.PageDown ≡ stays (with_scroll begun max_scroll)
unfolding max_items max_scroll
scroll-ends = refl

scroll-comes_to_end : change (scene_with None (max_scroll + 8000000) None) (with_scroll begun (max_scroll - 7)) events.PageDown ≡ stays (with_scroll begun max_scroll)
unfolding max_items max_scroll
scroll-comes_to_end = refl

-- there a click hits, and a row further down it would not
click-at_end : change (hit_of (ids.QuitDialogButton Quit)) (with_scroll begun max_scroll) click ≡ cancels (with_scroll begun max_scroll)
unfolding max_items max_scroll
click-at_end = refl

click-past_end : change (hit_of (ids.QuitDialogButton Quit)) (with_scroll begun (max_scroll + 1)) click ≡ stays (with_scroll begun (max_scroll + 1))
unfolding max_items max_scroll
click-past_end = refl

scroll-waits : change plain (with_dialog begun (Some (new_quit_dialog 0 1))) events.PageDown ≡ stays (with_dialog begun (Some (new_quit_dialog 0 1)))
unfolding max_items max_scroll
scroll-waits = refl

-- the last row of a line that is cut off below, and a line that the pinned header would cover
shows-below : change plain (at (line_key 0 0 5)) events.EnsureSelectionInViewport ≡ stays (with_scroll (at (line_key 0 0 5)) 1)
unfolding max_items max_scroll
shows-below = refl

shows-above : change plain (with_scroll (at (line_key 0 0 5)) 7) events.EnsureSelectionInViewport ≡ stays (with_scroll (at (line_key 0 0 5)) 6)
unfolding max_items max_scroll
shows-above = refl

-- ---- pages, of half a screen

page-from_section : change plain (at (section_key 0 0)) events.FocusNextPage ≡ stays (with_ensure (at (line_key 0 0 3)))
page-from_section = refl

page-goes_back : change plain (at (line_key 0 0 7)) events.FocusPrevPage ≡ stays (with_ensure (at (line_key 0 0 3)))
page-goes_back = refl

page-ends : change plain (at (line_key 0 0 8)) events.FocusNextPage ≡ stays (with_ensure (at (line_key 0 0 9)))
page-ends = refl

-- from nothing to nothing, which is to be shown all the same
page-of_none : change plain (at keys.None) events.FocusNextPage ≡ stays (with_ensure (at keys.None))
page-of_none = refl

-- ---- folds

-- a line has no fold, and is to be shown all the same; nothing has nothing around it, and that pushes nothing
expand-of_line : change plain (at (line_key 0 0 3)) events.ExpandItem ≡ stays (with_ensure (at (line_key 0 0 3)))
expand-of_line = refl

outer-of_none : change plain (at keys.None) (events.FocusOuter true) ≡ stays (at keys.None)
outer-of_none = refl

-- ---- a line of context, and nothing

-- a file of these sections
abbrev file_with : List Section → RecordState
file_with sections = record (letter None) { files = record { old_path = None; path = []; file_mode = Unix 33188; sections = sections } ∷ [] }

-- seven lines of context between two sections of a line, the first of which is selected
abbrev parted : Session
parted = at_key (start (file_with (Changed (line ∷ []) ∷ (Unchanged (replicate 7 []) ∷ (Changed (line ∷ []) ∷ []))))) (section_key 0 0)

abbrev at_context : Session
at_context = at_key parted (line_key 0 1 0)

-- a click selects it; it has no mark and isn't visible among the keys, so to advance from it selects nothing
context-is_selected : change (hit_of (ids.SelectableItem (line_key 0 1 0))) parted click ≡ stays at_context
unfolding max_items max_scroll
context-is_selected = refl

context-advances : change plain at_context events.ToggleItemAndAdvance ≡ stays (with_ensure (at_key at_context keys.None))
context-advances = refl

none-goes_to_file : change plain (at_key at_context keys.None) events.FocusNext ≡ stays (with_ensure (at_key at_context (file_key 0)))
none-goes_to_file = refl

-- ---- in the frame of a session, on a screen of so many columns and rows

abbrev change_on : ℕ → ℕ → Session → Session → Event → Change
change_on w h drawn s event = change (scene_of (Testing w h) drawn) s event

-- a folded file and the menu bar span two rows, and one where the file's row is the screen's first
abbrev scrolled : Session → Session
scrolled s = (change_on 80 24 s s events.ScrollDown).session

folded-scrolls : (scrolled begun ≡ with_scroll begun 1) × (scrolled (scrolled begun) ≡ begun) × (scrolled (scrolled (scrolled begun)) ≡ with_scroll begun 1)
unfolding documents frame_of max_items max_scroll
folded-scrolls = (refl, refl, refl)

-- of ten lines the fifth ends with a screen of eight rows, and the sixth stands below it
fifth-is_shown : change_on 24 8 (at (line_key 0 0 4)) (at (line_key 0 0 4)) events.EnsureSelectionInViewport ≡ stays (at (line_key 0 0 4))
unfolding documents frame_of max_items max_scroll
fifth-is_shown = refl

sixth-is_shown : change_on 24 8 (at (line_key 0 0 5)) (at (line_key 0 0 5)) events.EnsureSelectionInViewport ≡ stays (with_scroll (at (line_key 0 0 5)) 1)
unfolding documents frame_of max_items max_scroll
sixth-is_shown = refl

-- a line of context, and a section of two lines, which is selected
abbrev paired : Session
paired = at_key (start (file_with (Unchanged ([] ∷ []) ∷ (Changed (line ∷ line ∷ []) ∷ [])))) (section_key 0 1)

-- a scroll and a click before the next frame: the click is on the row that stands there by the new scroll
paired-scrolls : change_on 24 8 paired paired events.ScrollDown ≡ stays (with_scroll paired 1)
unfolding documents frame_of max_items max_scroll
paired-scrolls = refl

paired-is_clicked : change_on 24 8 paired (with_scroll paired 1) (events.Click 3 10) ≡ stays (at_key (with_scroll paired 1) (line_key 0 1 0))
unfolding owners frame_of max_items max_scroll
paired-is_clicked = refl

-- the header is pinned in the frame of the scroll before, and on its own row a click selects the file, also the second time
header-is_clicked : change_on 24 8 (with_scroll paired 2) (with_scroll paired 1) (events.Click 0 0) ≡ stays (at_key (with_scroll paired 1) (file_key 0))
unfolding owners frame_of max_items max_scroll
header-is_clicked = refl

header-is_clicked_again : change_on 24 8 (with_scroll paired 2) (at_key (with_scroll paired 1) (file_key 0)) (events.Click 0 0) ≡ stays (at_key (with_scroll paired 1) (file_key 0))
unfolding owners frame_of max_items max_scroll
header-is_clicked_again = refl

-- a click on the first column of a line of context
context-is_clicked : change_on 24 14 parted parted (events.Click 4 0) ≡ stays at_context
unfolding owners frame_of max_items max_scroll
context-is_clicked = refl

-- with a checked line to lose a user is asked, and goes on by a click, wherever the document is scrolled to
abbrev marked : Session
marked = start (file_with (Changed (record line { is_checked = true } ∷ []) ∷ []))

abbrev marked_asking : Session
marked_asking = with_dialog marked (Some (new_quit_dialog 0 1))

marked-asks : change_on 80 24 marked marked events.QuitCancel ≡ stays marked_asking
marked-asks = refl

marked-goes_on : change_on 80 24 marked_asking marked_asking (events.Click 12 55) ≡ stays marked
unfolding owners frame_of max_items max_scroll
marked-goes_on = refl

marked-scrolled-goes_on : change_on 80 24 (with_scroll marked_asking 1) (with_scroll marked_asking 1) (events.Click 12 55) ≡ stays (with_scroll marked 1)
unfolding owners frame_of max_items max_scroll
marked-scrolled-goes_on = refl

-- the first menu is opened; beside its item it is closed, and its second item gives up, with nothing to lose
title-is_clicked : change_on 80 24 begun begun (events.Click 0 1) ≡ stays (with_menu begun (Some 0))
unfolding owners frame_of max_items max_scroll
title-is_clicked = refl

bar-is_clicked : change_on 80 24 (with_menu begun (Some 0)) (with_menu begun (Some 0)) (events.Click 1 30) ≡ stays begun
unfolding owners frame_of max_items max_scroll
bar-is_clicked = refl

item-is_clicked : change_on 80 24 (with_menu begun (Some 0)) (with_menu begun (Some 0)) (events.Click 2 3) ≡ stays (with_pushed begun events.QuitCancel)
unfolding owners frame_of max_items max_scroll
item-is_clicked = refl

nothing-to_lose : change_on 80 24 begun begun events.QuitCancel ≡ cancels begun
nothing-to_lose = refl
