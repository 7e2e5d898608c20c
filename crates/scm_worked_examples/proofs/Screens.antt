-- Screens that a user comes to by scrolling, clicking, folding and asking, computed from the definitions: their rows, and who owns
-- what on them. Rows and columns count from 0; an owner's row is that of the document, which is the screen's and the scroll.
use Rattle.std.proofs.Common.{◌≡◌, ℕ, refl, [], ◌∷◌}
use Rattle.std.specs.Prelude.{codes, Some, None, Bool, List, ◌++◌, true, false, replicate, map}
use Rattle.scm_types.specs.declared.file.File.{File}
use Rattle.scm_types.specs.declared.line.SectionChangedLine.{SectionChangedLine}
use Rattle.scm_types.specs.declared.line.ChangeType.{ChangeType}
use Rattle.scm_types.specs.declared.line.ChangeType.TheVariants.{Added, Removed}
use Rattle.scm_types.specs.declared.section.Section.{Section}
use Rattle.scm_types.specs.declared.section.Section.TheVariants.{Unchanged, Changed}
use Rattle.scm_cells.specs.Screen.{view_of}
use Rattle.scm_types.specs.declared.keys.SelectionKey.{SelectionKey}
use Rattle.scm_types.specs.declared.keys.SelectionKey.TheVariants as keys
use Rattle.scm_widgets.specs.declared.ids.QuitDialogButtonId.TheVariants.{Quit, GoBack}
use Rattle.scm_widgets.specs.declared.ids.ComponentId.TheVariants as ids
use Rattle.scm_document.specs.declared.commit_view.CommitViewMode.TheVariants as mode
use Rattle.scm_view.specs.ViewState.{ViewState}
use Rattle.scm_view.specs.Window.{layers, rows_from, owner, span, extent}
use Rattle.scm_worked_examples.proofs.Computing.{documents, owners, screens, blanks, quoted, all_quoted, shot, file_key, section_key, line_key, file_of, item, toggle, header}

-- n rows of a screen of 80 by 24 that is scrolled to row s, from document row z on
abbrev rows_shot : ℕ → ℕ → ℕ → ViewState → List ℕ
rows_shot s z n shown = view_of (rows_from 80 (layers 80 24 s shown) z n)

-- ---- sessions with one file

-- two commits without messages, and nothing over the document
abbrev session : List File → SelectionKey → List SelectionKey → ViewState
session files selection expanded = record {
  state = record { is_read_only = false; commits = record { message = None } ∷ (record { message = None } ∷ []); files = files };
  selection = selection;
  expanded = expanded;
  view_mode = mode.Inline;
  open_menu = None;
  quit_dialog = None;
  is_help_open = false;
}

-- a changed line of one letter
abbrev changed : Bool → ChangeType → ℕ → SectionChangedLine
changed is_checked change letter = record { is_checked = is_checked; change_type = change; line = letter ∷ 10 ∷ [] }

-- lines of context, of one letter each
abbrev context : List ℕ → Section
context letters = Unchanged (map (λ letter. letter ∷ 10 ∷ []) letters)

abbrev no_files : ViewState
no_files = session [] keys.None []

-- a file without sections
abbrev bare : ViewState
bare = session (file_of (codes "foo/bar") [] ∷ []) file_key []

-- a folded file with a checked line
abbrev folded : ViewState
folded = session (file_of (codes "f") (Changed (changed true Added 99 ∷ []) ∷ []) ∷ []) file_key (section_key 0 ∷ [])

-- a line of context, and a section of two changed lines, of which the second is checked
abbrev two_changes : SelectionKey → ViewState
two_changes selection =
    session (file_of (codes "f") (context (codes "a") ∷ (Changed (changed false Removed 98 ∷ (changed true Added 99 ∷ [])) ∷ [])) ∷ [])
    selection (file_key ∷ (section_key 1 ∷ []))

-- one section of ten added lines
abbrev ten_lines : SelectionKey → ViewState
ten_lines selection = session (file_of (codes "f") (Changed (map (changed false Added) (codes "0123456789")) ∷ []) ∷ []) selection (file_key ∷ (section_key 0 ∷ []))

-- seven lines of context between two sections of a changed line each, after a line of the context was selected
abbrev three_sections : SelectionKey → ViewState
three_sections selection =
    session (file_of (codes "f") (Changed (changed false Added 120 ∷ []) ∷ (context (codes "abcdefg") ∷ (Changed (changed false Removed 121 ∷ []) ∷ []))) ∷ [])
    selection (file_key ∷ (section_key 0 ∷ (section_key 1 ∷ (section_key 2 ∷ []))))

-- the session with the quit dialog for one file with a mark
abbrev asking : ViewState → ViewState
asking shown = record shown { quit_dialog = Some (record { num_commit_messages = 0; num_changed_files = 1; focused_button = Quit }) }

-- ---- a folded file, scrolled: what spans two rows with the menu bar spans one where its row is the first

folded_extents : (extent 80 24 0 folded ≡ 2) × (extent 80 24 1 folded ≡ 1)
unfolding documents
folded_extents = (refl, refl)

-- ---- the quit dialog on 80 by 24: from column 10 and row 9 on, 60 columns and four rows

abbrev quit_top : List ℕ
quit_top = codes "┌Quit" ++ (replicate 54 0x2500 ++ codes "┐")

abbrev quit_bottom : List ℕ
quit_bottom = codes "└" ++ (replicate 42 0x2500 ++ codes "[Go Back]─(Quit)┘")

abbrev quit_rows : List ℕ
quit_rows =
    all_quoted
    ((blanks 10 ++ (quit_top ++ blanks 10))
    ∷ ((blanks 10 ++ (codes "│You have changes to 1 file. Are you sure you want to quit?│" ++ blanks 10))
    ∷ ((blanks 10 ++ (codes "│" ++ (blanks 58 ++ (codes "│" ++ blanks 10))))
    ∷ ((blanks 10 ++ (quit_bottom ++ blanks 10)) ∷ []))))

quit_shot : rows_shot 0 9 4 (asking folded) ≡ quit_rows
unfolding screens
quit_shot = refl

-- it stands on the same rows of the screen where the document is scrolled by a row
quit_scrolled_shot : rows_shot 1 10 4 (asking folded) ≡ quit_rows
unfolding screens
quit_scrolled_shot = refl

-- over ten lines it hides what its columns lie over, and no more
quit_over_lines_shot : rows_shot 0 9 1 (asking (ten_lines file_key)) ≡ quoted (codes "    [ ] + " ++ (quit_top ++ blanks 10))
unfolding screens
quit_over_lines_shot = refl

-- its last row, from the column before it to the one after: both buttons own the columns of their texts
quit_owners : (owner 80 24 0 (asking folded) 12 9 ≡ None) × (owner 80 24 0 (asking folded) 12 10 ≡ Some ids.QuitDialog)
    × (owner 80 24 0 (asking folded) 12 52 ≡ Some ids.QuitDialog) × (owner 80 24 0 (asking folded) 12 53 ≡ Some (ids.QuitDialogButton GoBack))
    × (owner 80 24 0 (asking folded) 12 61 ≡ Some (ids.QuitDialogButton GoBack)) × (owner 80 24 0 (asking folded) 12 62 ≡ Some ids.QuitDialog)
    × (owner 80 24 0 (asking folded) 12 63 ≡ Some (ids.QuitDialogButton Quit)) × (owner 80 24 0 (asking folded) 12 68 ≡ Some (ids.QuitDialogButton Quit))
    × (owner 80 24 0 (asking folded) 12 69 ≡ Some ids.QuitDialog) × (owner 80 24 0 (asking folded) 12 70 ≡ None)
unfolding owners
quit_owners = (refl, refl, refl, refl, refl, refl, refl, refl, refl, refl)

-- scrolled by a row, the same places of the screen
quit_scrolled_owners : (owner 80 24 1 (asking folded) 13 53 ≡ Some (ids.QuitDialogButton GoBack)) × (owner 80 24 1 (asking folded) 13 61 ≡ Some (ids.QuitDialogButton GoBack))
    × (owner 80 24 1 (asking folded) 13 62 ≡ Some ids.QuitDialog) × (owner 80 24 1 (asking folded) 13 63 ≡ Some (ids.QuitDialogButton Quit))
    × (owner 80 24 1 (asking folded) 13 68 ≡ Some (ids.QuitDialogButton Quit)) × (owner 80 24 1 (asking folded) 12 55 ≡ Some ids.QuitDialog)
    × (owner 80 24 1 (asking folded) 9 30 ≡ None) × (owner 80 24 1 (asking folded) 14 30 ≡ None)
unfolding owners
quit_scrolled_owners = (refl, refl, refl, refl, refl, refl, refl, refl)

-- a line owns what the dialog leaves of its row
quit_over_lines_owners : (owner 80 24 0 (asking (ten_lines file_key)) 12 9 ≡ item (line_key 0 9)) × (owner 80 24 0 (asking (ten_lines file_key)) 12 10 ≡ Some ids.QuitDialog)
    × (owner 80 24 0 (asking (ten_lines file_key)) 12 70 ≡ item (line_key 0 9))
unfolding owners
quit_over_lines_owners = (refl, refl, refl)

-- ---- the help on 80 by 24: rows 2 to 20, all columns

abbrev helping : ViewState
helping = record bare { is_help_open = true }

-- its first line, and the widest, of which the last two columns have no room
help_shot : rows_shot 0 3 1 helping ≡ quoted (codes "│You can click the menus with a mouse, or use these keyboard shortcuts:" ++ (blanks 8 ++ codes "│"))
unfolding screens
help_shot = refl

help_middle_shot : rows_shot 0 9 1 helping ≡ quoted (codes "│" ++ (blanks 40 ++ codes "Move out & don't fold   H or Shift-←  │"))
unfolding screens
help_middle_shot = refl

-- its last line
help_end_shot : rows_shot 0 19 1 helping ≡ quoted (codes "│    Invert all uniformly    A" ++ (blanks 49 ++ codes "│"))
unfolding screens
help_end_shot = refl

help_owners : (owner 80 24 0 helping 1 0 ≡ toggle file_key) × (owner 80 24 0 helping 2 0 ≡ Some ids.HelpDialog) × (owner 80 24 0 helping 2 79 ≡ Some ids.HelpDialog)
    × (owner 80 24 0 helping 20 0 ≡ Some ids.HelpDialog) × (owner 80 24 0 helping 20 71 ≡ Some ids.HelpDialog) × (owner 80 24 0 helping 20 72 ≡ Some ids.HelpDialogQuitButton)
    × (owner 80 24 0 helping 20 78 ≡ Some ids.HelpDialogQuitButton) × (owner 80 24 0 helping 20 79 ≡ Some ids.HelpDialog) × (owner 80 24 0 helping 21 0 ≡ None)
unfolding owners
help_owners = (refl, refl, refl, refl, refl, refl, refl, refl, refl)

-- ---- the open menu on 80 by 24

abbrev choosing : ViewState
choosing = record bare { open_menu = Some 0 }

-- titles and items own the columns of their texts, the bar what is left of their rows; below the menu there is nothing
menu_owners : (owner 80 24 0 choosing 0 1 ≡ Some (ids.Menu 0)) × (owner 80 24 0 choosing 0 6 ≡ Some ids.MenuBar) × (owner 80 24 0 choosing 0 7 ≡ Some (ids.Menu 1))
    × (owner 80 24 0 choosing 1 12 ≡ Some (ids.MenuItem 0)) × (owner 80 24 0 choosing 1 13 ≡ Some ids.MenuBar) × (owner 80 24 0 choosing 1 30 ≡ Some ids.MenuBar)
    × (owner 80 24 0 choosing 1 78 ≡ Some ids.MenuBar) × (owner 80 24 0 choosing 2 3 ≡ Some (ids.MenuItem 1)) × (owner 80 24 0 choosing 2 9 ≡ Some (ids.MenuItem 1))
    × (owner 80 24 0 choosing 2 10 ≡ Some ids.MenuBar) × (owner 80 24 0 choosing 3 3 ≡ None)
unfolding owners
menu_owners = (refl, refl, refl, refl, refl, refl, refl, refl, refl, refl, refl)

-- ---- a line selected by a click, on a screen that is scrolled by a row

line_shot : shot 24 8 1 (two_changes (line_key 1 0))
    ≡ all_quoted
    (codes "[File] [Edit] [Select] ["
    ∷ (codes "[◐] f                [-]"
    ∷ (codes "  [◐] Section 1/1    [-]"
    ∷ (codes "    ( ) - b⏎            "
    ∷ (codes "    [●] + c⏎            "
    ∷ (blanks 24 ∷ (blanks 24 ∷ (blanks 24 ∷ []))))))))
unfolding screens
line_shot = refl

-- the screen's row 3 is the document's row 4, of the frame before the scroll and of the one after; a row further up is the section
line_owners : (owner 24 8 0 (two_changes (section_key 1)) 4 10 ≡ item (line_key 1 0)) × (owner 24 8 1 (two_changes (line_key 1 0)) 4 10 ≡ item (line_key 1 0))
    × (owner 24 8 0 (two_changes (section_key 1)) 3 10 ≡ item (section_key 1))
unfolding owners
line_owners = (refl, refl, refl)

-- ---- the header of a selected file, pinned

file_shot : shot 24 8 1 (two_changes file_key)
    ≡ all_quoted
    (codes "[File] [Edit] [Select] ["
    ∷ (codes "(◐) f                (-)"
    ∷ (codes "  [◐] Section 1/1    [-]"
    ∷ (codes "    [ ] - b⏎            "
    ∷ (codes "    [●] + c⏎            "
    ∷ (blanks 24 ∷ (blanks 24 ∷ (blanks 24 ∷ []))))))))
unfolding screens
file_shot = refl

-- where the header is pinned further down, the file owns all of its own header's row, boxes included, and the boxes are on the row
-- where it is pinned
file_owners : (owner 24 8 2 (two_changes (section_key 1)) 1 0 ≡ item file_key) × (owner 24 8 2 (two_changes (section_key 1)) 1 10 ≡ item file_key)
    × (owner 24 8 2 (two_changes (section_key 1)) 1 22 ≡ item file_key) × (owner 24 8 2 (two_changes (section_key 1)) 3 22 ≡ Some (ids.ExpandBox file_key))
    × (owner 24 8 0 (two_changes (section_key 1)) 1 0 ≡ toggle file_key) × (owner 24 8 0 (two_changes (section_key 1)) 1 10 ≡ header)
unfolding owners
file_owners = (refl, refl, refl, refl, refl, refl)

-- ---- ten lines, scrolled until the sixth is shown on the last row

ten_lines_shot : shot 24 8 1 (ten_lines (line_key 0 5))
    ≡ all_quoted
    (codes "[File] [Edit] [Select] ["
    ∷ (codes "[ ] f                [-]"
    ∷ (codes "    [ ] + 0⏎            "
    ∷ (codes "    [ ] + 1⏎            "
    ∷ (codes "    [ ] + 2⏎            "
    ∷ (codes "    [ ] + 3⏎            "
    ∷ (codes "    [ ] + 4⏎            "
    ∷ (codes "    ( ) + 5⏎            " ∷ []))))))))
unfolding screens
ten_lines_shot = refl

ten_lines_spans : (span (ten_lines (line_key 0 5)) (line_key 0 5) ≡ Some (8, 1)) × (span (ten_lines (line_key 0 5)) (section_key 0) ≡ Some (2, 11))
    × (span (ten_lines (line_key 0 5)) file_key ≡ Some (1, 12)) × (extent 24 8 0 (ten_lines (line_key 0 5)) ≡ 13)
unfolding documents
ten_lines_spans = (refl, refl, refl, refl)

-- ---- nothing selected, and a line of context selected: no box has the focus

abbrev unfocused_rows : List ℕ
unfocused_rows =
    all_quoted
    (codes "[File] [Edit] [Select] ["
    ∷ (codes "[ ] f                [-]"
    ∷ (codes "  [ ] Section 1/2    [-]"
    ∷ (codes "    [ ] + x⏎            "
    ∷ (codes "        1 a⏎            "
    ∷ (codes "        2 b⏎            "
    ∷ (codes "        3 c⏎            "
    ∷ (codes "        ⋮               "
    ∷ (codes "        5 e⏎            "
    ∷ (codes "        6 f⏎            "
    ∷ (codes "        7 g⏎            "
    ∷ (codes "  [ ] Section 2/2    [-]"
    ∷ (codes "    [ ] - y⏎            "
    ∷ (blanks 24 ∷ []))))))))))))))

unfocused_shot : shot 24 14 0 (three_sections keys.None) ≡ unfocused_rows
unfolding screens
unfocused_shot = refl

context_shot : shot 24 14 0 (three_sections (line_key 1 0)) ≡ unfocused_rows
unfolding screens
context_shot = refl

-- lines of context own all of their columns; a section that shows a line owns those of its other rows
context_owners : (owner 24 14 0 (three_sections (line_key 1 0)) 4 0 ≡ item (line_key 1 0)) × (owner 24 14 0 (three_sections (line_key 1 0)) 4 23 ≡ item (line_key 1 0))
    × (owner 24 14 0 (three_sections (line_key 1 0)) 7 0 ≡ item (section_key 1)) × (owner 24 14 0 (three_sections (line_key 1 0)) 11 0 ≡ item (section_key 2))
unfolding owners
context_owners = (refl, refl, refl, refl)

-- of two folded sections the file owns columns 0 and 1, but where the section is selected; there is no context beside them
abbrev closed : ViewState
closed = record (three_sections (section_key 0)) { expanded = file_key ∷ [] }

closed_owners : (owner 24 14 0 closed 2 0 ≡ item (section_key 0)) × (owner 24 14 0 closed 2 1 ≡ item (section_key 0)) × (owner 24 14 0 closed 3 0 ≡ item file_key)
    × (owner 24 14 0 closed 3 1 ≡ item file_key) × (owner 24 14 0 closed 3 2 ≡ toggle (section_key 2)) × (owner 24 14 0 closed 4 0 ≡ None)
unfolding owners
closed_owners = (refl, refl, refl, refl, refl, refl)

-- ---- without files, on 80 by 24: the words that there are none, between blank rows

no_files_shot : rows_shot 0 5 3 no_files ≡ all_quoted (blanks 80 ∷ ((blanks 20 ++ (codes "There are no changes to view." ++ blanks 31)) ∷ (blanks 80 ∷ [])))
unfolding screens
no_files_shot = refl

-- nobody owns them
no_files_owners : (owner 80 24 0 no_files 6 19 ≡ None) × (owner 80 24 0 no_files 6 20 ≡ None) × (owner 80 24 0 no_files 6 48 ≡ None)
unfolding owners
no_files_owners = (refl, refl, refl)
