-- Whole screens computed from the definitions: what they show, who owns some of their points, where keys stand, and how many rows
-- all of it spans.
use Rattle.std.proofs.Common.{◌≡◌, ℕ, refl, [], ◌∷◌}
use Rattle.std.specs.Prelude.{codes, encode_utf8_all, Some, None, Option, List, ◌++◌, true, false, replicate}
use Rattle.std.specs.Str.{trim_start, trim_end}
use Rattle.scm_types.specs.declared.file.File.{File}
use Rattle.scm_types.specs.declared.line.ChangeType.{ChangeType}
use Rattle.scm_types.specs.declared.line.ChangeType.TheVariants.{Added, Removed}
use Rattle.scm_types.specs.declared.section.Section.{Section}
use Rattle.scm_types.specs.declared.section.Section.TheVariants.{Unchanged, Changed}
use Rattle.scm_cells.specs.Screen.{view_of}
use Rattle.scm_types.specs.declared.keys.SelectionKey.{SelectionKey}
use Rattle.scm_types.specs.declared.keys.SelectionKey.TheVariants as keys
use Rattle.scm_widgets.specs.declared.ids.QuitDialogButtonId.TheVariants.{Quit, GoBack}
use Rattle.scm_widgets.specs.declared.ids.ComponentId.TheVariants as ids
use Rattle.scm_document.specs.declared.commit_view.CommitViewMode.TheVariants as mode
use Rattle.scm_view.specs.ViewState.{ViewState}
use Rattle.scm_view.specs.Frame.{frame_of_document}
use Rattle.scm_record.specs.Frames.{Scene}
use Rattle.scm_record.specs.FrameQueries.{shot_of}
use Rattle.scm_document.specs.Texts.{message_text}
use Rattle.scm_view.specs.Window.{layers, rows_from, owner, span, extent}
use Rattle.scm_worked_examples.proofs.Computing.{documents, owners, screens, blanks, quoted, shot, file_key, section_key, line_key, file_of, item}

-- ---- sessions

-- two commits, the first with this message, and these files
abbrev session : Option (List ℕ) → List File → SelectionKey → List SelectionKey → ViewState
session message files selection expanded = record {
  state = record { is_read_only = false; commits = record { message = message } ∷ (record { message = None } ∷ []); files = files };
  selection = selection;
  expanded = expanded;
  view_mode = mode.Inline;
  open_menu = None;
  quit_dialog = None;
  is_help_open = false;
}

abbrev one_line : ℕ → ChangeType → Section
one_line letter change = Changed (record { is_checked = false; change_type = change; line = letter ∷ 10 ∷ [] } ∷ [])

abbrev folded : ViewState
folded = session None (file_of (codes "foo/bar") [] ∷ []) file_key []

abbrev two_changes : ViewState
two_changes =
    session None
    (file_of (codes "f")
    (Unchanged ((97 ∷ 10 ∷ []) ∷ []) ∷ (Changed (record { is_checked = false; change_type = Removed; line = 98 ∷ 10 ∷ [] } ∷ (record { is_checked = true; change_type = Added; line = 99 ∷ 10 ∷ [] } ∷ [])) ∷ [])) ∷ [])
    (section_key 1) (file_key ∷ (section_key 1 ∷ []))

abbrev three_sections : ViewState
three_sections =
    session None
    (file_of (codes "f")
    (one_line 120 Added ∷ (Unchanged ((97 ∷ 10 ∷ []) ∷ ((98 ∷ 10 ∷ []) ∷ ((99 ∷ 10 ∷ []) ∷ ((100 ∷ 10 ∷ []) ∷ ((101 ∷ 10 ∷ []) ∷ ((102 ∷ 10 ∷ []) ∷ ((103 ∷ 10 ∷ []) ∷ []))))))) ∷ (one_line 121 Removed ∷ []))) ∷ [])
    (section_key 0) (file_key ∷ (section_key 0 ∷ (section_key 2 ∷ [])))

abbrev with_message : ViewState
with_message = session (Some (codes "hello")) (file_of (codes "f") [] ∷ []) file_key []

-- a screen on which the folded file was drawn last
abbrev drawn : Scene
drawn = record { width = 20; height = 5; frame = frame_of_document 20 5 0 folded; open_menu = None }

abbrev asked : ViewState
asked = record (session None (file_of (codes "f") [] ∷ []) file_key []) { quit_dialog = Some (record { num_commit_messages = 0; num_changed_files = 1; focused_button = Quit }) }

abbrev no_files : ViewState
no_files = session None [] keys.None []

-- a path of wide symbols
abbrev wide_path : ViewState
wide_path = session None (file_of (encode_utf8_all (codes "日本語")) [] ∷ []) file_key []

-- ---- what screens show

folded_shot : shot 20 5 0 folded ≡ quoted (codes "[File] [Edit] [Selec") ++ (quoted (codes "( ) foo/bar      (+)") ++ (quoted (blanks 20) ++ (quoted (blanks 20) ++ quoted (blanks 20))))
unfolding screens
folded_shot = refl

-- once the screen was cleared it is blank until the next frame
redraw_shots :
    (shot_of drawn true ≡ quoted (blanks 20) ++ (quoted (blanks 20) ++ (quoted (blanks 20) ++ (quoted (blanks 20) ++ quoted (blanks 20)))))
    × (shot_of drawn false ≡ shot 20 5 0 folded)
unfolding screens
redraw_shots = (refl, refl)

-- a path is cut with an ellipsis, and a symbol is never cut in half
wide_path_shots :
    (shot 13 2 0 wide_path ≡ quoted (codes "[File] [Edit]") ++ quoted (codes "( ) 日本語(+)"))
    × (shot 12 2 0 wide_path ≡ quoted (codes "[File] [Edit") ++ quoted (codes "( ) 日本…(+)"))
    × (shot 11 2 0 wide_path ≡ quoted (codes "[File] [Edi") ++ quoted (codes "( ) 日 …(+)"))
unfolding screens
wide_path_shots = (refl, refl, refl)

two_changes_shot : shot 24 8 0 two_changes
    ≡ quoted (codes "[File] [Edit] [Select] [") ++ (quoted (codes "[◐] f                [-]") ++ (quoted (codes "        1 a⏎            ") ++ (quoted (codes "  (◐) Section 1/1    (-)") ++ (quoted (codes "    [ ] - b⏎            ") ++ (quoted (codes "    [●] + c⏎            ") ++ (quoted (blanks 24) ++ quoted (blanks 24)))))))
unfolding screens
two_changes_shot = refl

-- two rows further down the header is pinned below the menu bar
pinned_shot : shot 24 8 2 two_changes
    ≡ quoted (codes "[File] [Edit] [Select] [") ++ (quoted (codes "[◐] f                [-]") ++ (quoted (codes "    [ ] - b⏎            ") ++ (quoted (codes "    [●] + c⏎            ") ++ (quoted (blanks 24) ++ (quoted (blanks 24) ++ (quoted (blanks 24) ++ quoted (blanks 24)))))))
unfolding screens
pinned_shot = refl

three_sections_shot : shot 24 14 0 three_sections
    ≡ quoted (codes "[File] [Edit] [Select] [") ++ (quoted (codes "[ ] f                [-]") ++ (quoted (codes "  ( ) Section 1/2    (-)") ++ (quoted (codes "    [ ] + x⏎            ") ++ (quoted (codes "        1 a⏎            ") ++ (quoted (codes "        2 b⏎            ") ++ (quoted (codes "        3 c⏎            ") ++ (quoted (codes "        ⋮               ") ++ (quoted (codes "        5 e⏎            ") ++ (quoted (codes "        6 f⏎            ") ++ (quoted (codes "        7 g⏎            ") ++ (quoted (codes "  [ ] Section 2/2    [-]") ++ (quoted (codes "    [ ] - y⏎            ") ++ quoted (blanks 24)))))))))))))
unfolding screens
three_sections_shot = refl

-- a message that is longer than the screen is wide
message_shot : shot 10 2 1 with_message ≡ quoted (codes "[File] [Ed") ++ quoted (codes "[Edit mes…")
unfolding screens message_text trim_start trim_end
message_shot = refl

-- the open menu hides what its columns lie over
menu_shot : shot 80 4 0 (record folded { open_menu = Some 0 })
    ≡ quoted (codes "[File] [Edit] [Select] [View]                                                   ") ++ (quoted (codes "[Confirm (c)]" ++ (blanks 64 ++ codes "(+)")) ++ (quoted (codes "[Quit (q)]                                                                      ") ++ quoted (blanks 80)))
unfolding screens
menu_shot = refl

-- the quit dialog for one file with a mark, on a screen that is smaller than its frame
quit_shot : shot 10 2 0 asked ≡ quoted (codes "┌Quit────┐") ++ quoted (codes "k]─(Quit)┘")
unfolding screens
quit_shot = refl

-- ---- one row of a screen of 80 by 24

abbrev row_shot : ℕ → ViewState → List ℕ
row_shot z shown = view_of (rows_from 80 (layers 80 24 0 shown) z 1)

-- the words that there are no files
words_shot : row_shot 6 no_files ≡ quoted (blanks 20 ++ (codes "There are no changes to view." ++ blanks 31))
unfolding screens
words_shot = refl

-- the first row of the help, and its last one with the button
help_shot : (row_shot 2 (record folded { is_help_open = true }) ≡ quoted (codes "┌Help" ++ (replicate 74 0x2500 ++ codes "┐"))) × (row_shot 20 (record folded { is_help_open = true }) ≡ quoted (codes "└" ++ (replicate 71 0x2500 ++ codes "(Close)┘")))
unfolding screens
help_shot = (refl, refl)

-- ---- owners

-- in the second row of the open menu its item, and beside it the bar; below the menu nothing
menu_owners : (owner 80 4 0 (record folded { open_menu = Some 0 }) 1 30 ≡ Some ids.MenuBar) × (owner 80 4 0 (record folded { open_menu = Some 0 }) 2 3 ≡ Some (ids.MenuItem 1))
    × (owner 80 4 0 (record folded { open_menu = Some 0 }) 3 3 ≡ None)
unfolding owners
menu_owners = (refl, refl, refl)

-- a line of context owns all of its columns; the file those left of a section that shows no line
three_sections_owners : (owner 24 14 0 three_sections 4 0 ≡ item (line_key 1 0)) × (owner 24 14 0 three_sections 2 0 ≡ item (section_key 0)) × (owner 24 14 0 three_sections 2 3 ≡ Some (ids.ToggleBox (section_key 0)))
    × (owner 24 14 0 three_sections 7 9 ≡ item (section_key 1))
unfolding owners
three_sections_owners = (refl, refl, refl, refl)

-- where the header is pinned on row 3, the boxes are there, and the file owns its own header's row; above the screen too
pinned_owners : (owner 24 8 2 two_changes 1 0 ≡ item file_key) × (owner 24 8 2 two_changes 3 0 ≡ Some (ids.ToggleBox file_key)) × (owner 24 8 2 two_changes 3 10 ≡ Some (ids.FileViewHeader (record { commit_idx = 0; file_idx = 0 })))
    × (owner 24 8 2 two_changes 2 0 ≡ Some (ids.Menu 0)) × (owner 24 8 2 two_changes 4 0 ≡ item (line_key 1 0)) × (owner 24 8 2 two_changes 6 0 ≡ None)
unfolding owners
pinned_owners = (refl, refl, refl, refl, refl, refl)

-- the dialog's buttons, and a row further down where the document is scrolled by a row; beside it the document
quit_owners : (owner 80 24 0 asked 12 55 ≡ Some (ids.QuitDialogButton GoBack)) × (owner 80 24 0 asked 12 63 ≡ Some (ids.QuitDialogButton Quit)) × (owner 80 24 0 asked 12 62 ≡ Some ids.QuitDialog)
    × (owner 80 24 1 asked 13 55 ≡ Some (ids.QuitDialogButton GoBack)) × (owner 80 24 0 asked 1 5 ≡ Some (ids.FileViewHeader (record { commit_idx = 0; file_idx = 0 })))
unfolding owners
quit_owners = (refl, refl, refl, refl, refl)

-- ---- keys

two_changes_spans : (span two_changes file_key ≡ Some (1, 5)) × (span two_changes (section_key 0) ≡ Some (2, 1)) × (span two_changes (section_key 1) ≡ Some (3, 3)) × (span two_changes (line_key 1 1) ≡ Some (5, 1))
    × (span two_changes (line_key 1 2) ≡ None) × (span folded (section_key 0) ≡ None)
unfolding documents
two_changes_spans = (refl, refl, refl, refl, refl, refl)

-- ---- extents

-- one row of a document, of which the screen's first row is a part from row 1 on; an open menu is longer
extents : (extent 80 24 0 folded ≡ 2) × (extent 80 24 1 folded ≡ 1) × (extent 80 24 0 (record folded { open_menu = Some 0 }) ≡ 3) × (extent 24 8 2 two_changes ≡ 5) × (extent 80 24 0 no_files ≡ 7)
unfolding documents
extents = (refl, refl, refl, refl, refl)
