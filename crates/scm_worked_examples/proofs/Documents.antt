-- Rows and owners of documents, computed from the definitions.
use Rattle.std.proofs.Common.{◌≡◌, ℕ, refl, [], ◌∷◌}
use Rattle.std.specs.Fmt.{digits}
use Rattle.std.specs.Prelude.{codes, Some, None, Option, List, ◌++◌, true, false, map, replicate}
use lib.Utf8.{encode}
use Rattle.unicode_segmentation.proofs.Computing.{unicode_segmentation}
use Rattle.unicode_width.proofs.Computing.{unicode_width}
use Rattle.scm_types.specs.declared.state.RecordState.{RecordState}
use Rattle.scm_types.specs.declared.line.ChangeType.{ChangeType}
use Rattle.scm_types.specs.declared.line.ChangeType.TheVariants.{Added, Removed}
use Rattle.scm_types.specs.declared.file_mode.FileMode.TheVariants.{Unix}
use Rattle.scm_types.specs.declared.section.Section.{Section}
use Rattle.scm_types.specs.declared.section.Section.TheVariants.{Unchanged, Changed, FileMode}
use Rattle.scm_cells.specs.Clusters.{visible_clusters, text_width, clusters, with_width, visible_width, has_control}
use Rattle.scm_cells.specs.Replaced.{line_pieces, pieces_from, replacement}
use Rattle.scm_cells.specs.Row.{put, overlay, written, with_columns, whole_before, whole_after, cells_of, later_cells, row_text}
use Rattle.scm_cells.specs.Screen.{view_of}
use Rattle.scm_render.specs.Canvas.{Row}
use Rattle.scm_render.specs.Drawing.{texts_width}
use Rattle.scm_types.specs.declared.keys.SelectionKey.{SelectionKey}
use Rattle.scm_types.specs.declared.keys.SelectionKey.TheVariants as keys
use Rattle.scm_widgets.specs.declared.ids.ComponentId.{ComponentId}
use Rattle.scm_widgets.specs.declared.ids.ComponentId.TheVariants as ids
use Rattle.scm_document.specs.declared.commit_view.CommitViewMode.TheVariants as mode
use Rattle.scm_widgets.specs.Blanks.{blank_row}
use Rattle.scm_widgets.specs.Layers.{Strip}
use Rattle.scm_document.specs.Rows.{Document, document_of, shown_file, shown_sections, section_rows, context_rows, rows_of_lines, file_rows, sections_rows}
use Rattle.scm_document.specs.FilesRows.{files_rows}
use Rattle.scm_render.specs.Rows.{put_texts, say_texts}
use Rattle.scm_document.specs.Strips.{row_strip, files_layer, message_strips, files_strips, file_strips, sections_strips, section_strips}
use Rattle.scm_view.specs.ViewState.{ViewState, commit_at, commit_view_of, file_views_of, section_views_of, are_all_expanded}
use Rattle.scm_worked_examples.proofs.Computing.{quoted}

abbrev strips_of : ℕ → ℕ → Document → List (Strip ComponentId)
strips_of w m d = (files_layer w m 0 d).strips

-- the rows that strips make of blank ones
abbrev rows_of : ℕ → List (Strip ComponentId) → List Row
rows_of w ss = map (λ (s : Strip ComponentId). s.shows (blank_row w)) ss

-- ---- a line of context and two changed lines, whose section is selected

abbrev key : ℕ → SelectionKey
key i = keys.Section (record { commit_idx = 0; file_idx = 0; section_idx = i })

abbrev file_key : SelectionKey
file_key = keys.File (record { commit_idx = 0; file_idx = 0 })

abbrev state_of : List Section → RecordState
state_of sections = record {
  is_read_only = false;
  commits = record { message = None } ∷ (record { message = None } ∷ []);
  files = record { old_path = None; path = codes "f"; file_mode = Unix 33188; sections = sections } ∷ [];
}

abbrev two_changes : ViewState
two_changes = record {
  state = state_of (Unchanged ((97 ∷ 10 ∷ []) ∷ []) ∷ (Changed (record { is_checked = false; change_type = Removed; line = 98 ∷ 10 ∷ [] } ∷ (record { is_checked = true; change_type = Added; line = 99 ∷ 10 ∷ [] } ∷ [])) ∷ []));
  selection = key 1;
  expanded = file_key ∷ (key 1 ∷ []);
  view_mode = mode.Inline;
  open_menu = None;
  quit_dialog = None;
  is_help_open = false;
}

two_changes_rows : view_of (rows_of 24 (strips_of 24 0 (document_of (commit_view_of two_changes 0))))
    ≡ quoted (codes "[◐] f                [-]") ++ (quoted (codes "        1 a⏎            ") ++ (quoted (codes "  (◐) Section 1/1    (-)") ++ (quoted (codes "    [ ] - b⏎            ") ++ quoted (codes "    [●] + c⏎            "))))
unfolding digits commit_at file_views_of section_views_of are_all_expanded shown_file shown_sections section_rows context_rows rows_of_lines file_rows files_rows sections_rows message_strips files_strips file_strips sections_strips section_strips row_strip put_texts say_texts line_pieces pieces_from replacement texts_width text_width clusters visible_clusters with_width visible_width has_control put overlay written with_columns whole_before whole_after cells_of later_cells row_text encode unicode_segmentation unicode_width
two_changes_rows = refl

-- ---- two changed lines with seven lines of context between them: the first section is selected

abbrev letters : List (List ℕ)
letters = (97 ∷ 10 ∷ []) ∷ ((98 ∷ 10 ∷ []) ∷ ((99 ∷ 10 ∷ []) ∷ ((100 ∷ 10 ∷ []) ∷ ((101 ∷ 10 ∷ []) ∷ ((102 ∷ 10 ∷ []) ∷ ((103 ∷ 10 ∷ []) ∷ []))))))

abbrev one_line : ℕ → ChangeType → Section
one_line letter change = Changed (record { is_checked = false; change_type = change; line = letter ∷ 10 ∷ [] } ∷ [])

abbrev three_sections : ViewState
three_sections = record two_changes {
  state = state_of (one_line 120 Added ∷ (Unchanged letters ∷ (one_line 121 Removed ∷ [])));
  selection = key 0;
  expanded = file_key ∷ (key 0 ∷ (key 2 ∷ []));
}

three_sections_rows : view_of (rows_of 24 (strips_of 24 0 (document_of (commit_view_of three_sections 0))))
    ≡ quoted (codes "[ ] f                [-]") ++ (quoted (codes "  ( ) Section 1/2    (-)") ++ (quoted (codes "    [ ] + x⏎            ") ++ (quoted (codes "        1 a⏎            ") ++ (quoted (codes "        2 b⏎            ") ++ (quoted (codes "        3 c⏎            ")
    ++ (quoted (codes "        ⋮               ") ++ (quoted (codes "        5 e⏎            ") ++ (quoted (codes "        6 f⏎            ") ++ (quoted (codes "        7 g⏎            ") ++ (quoted (codes "  [ ] Section 2/2    [-]") ++ quoted (codes "    [ ] - y⏎            ")))))))))))
unfolding digits commit_at file_views_of section_views_of are_all_expanded shown_file shown_sections section_rows context_rows rows_of_lines file_rows files_rows sections_rows message_strips files_strips file_strips sections_strips section_strips row_strip put_texts say_texts line_pieces pieces_from replacement texts_width text_width clusters visible_clusters with_width visible_width has_control put overlay written with_columns whole_before whole_after cells_of later_cells row_text encode unicode_segmentation unicode_width
three_sections_rows = refl

-- ---- who owns each of twelve columns

abbrev owners_of : List (Strip ComponentId) → List (List (Option ComponentId))
owners_of ss = map (λ (s : Strip ComponentId). map s.owner (0 ∷ (1 ∷ (2 ∷ (3 ∷ (4 ∷ (5 ∷ (6 ∷ (7 ∷ (8 ∷ (9 ∷ (10 ∷ (11 ∷ []))))))))))))) ss

abbrev line : ℕ → ℕ → SelectionKey
line i k = keys.Line (record { commit_idx = 0; file_idx = 0; section_idx = i; line_idx = k })

abbrev item : ℕ → SelectionKey → List (Option ComponentId)
item n k = replicate n (Some (ids.SelectableItem k))

abbrev toggle : SelectionKey → List (Option ComponentId)
toggle k = replicate 3 (Some (ids.ToggleBox k))

abbrev fold : SelectionKey → List (Option ComponentId)
fold k = replicate 3 (Some (ids.ExpandBox k))

-- a folded section, a line of context, and a mode: columns 0 and 1 are the file's but on the line and on the selected section's row
abbrev mixed : ViewState
mixed = record two_changes {
  state = state_of (one_line 120 Added ∷ (Unchanged ((97 ∷ 10 ∷ []) ∷ []) ∷ (FileMode true (Unix 33261) ∷ [])));
  selection = key 2;
  expanded = file_key ∷ (key 2 ∷ []);
}

mixed_owners : owners_of (strips_of 12 0 (document_of (commit_view_of mixed 0)))
    ≡ (toggle file_key ++ (replicate 6 (Some (ids.FileViewHeader (record { commit_idx = 0; file_idx = 0 }))) ++ fold file_key))
    ∷ ((item 2 file_key ++ (toggle (key 0) ++ (item 4 (key 0) ++ fold (key 0))))
    ∷ (item 12 (line 1 0)
    ∷ ((item 2 (key 2) ++ (toggle (key 2) ++ item 7 (key 2))) ∷ [])))
unfolding digits commit_at file_views_of section_views_of are_all_expanded shown_file shown_sections section_rows context_rows rows_of_lines file_rows files_rows sections_rows message_strips files_strips file_strips sections_strips section_strips row_strip
mixed_owners = refl

-- where the header is pinned, on row 1 of five rows from row 0 on, the file owns its own first row
pinned_owners : owners_of (strips_of 12 1 (document_of (commit_view_of mixed 0)))
    ≡ item 12 file_key
    ∷ ((item 2 file_key ++ (toggle (key 0) ++ (item 4 (key 0) ++ fold (key 0))))
    ∷ (item 12 (line 1 0)
    ∷ ((item 2 (key 2) ++ (toggle (key 2) ++ item 7 (key 2))) ∷ [])))
unfolding digits commit_at file_views_of section_views_of are_all_expanded shown_file shown_sections section_rows context_rows rows_of_lines file_rows files_rows sections_rows message_strips files_strips file_strips sections_strips section_strips row_strip
pinned_owners = refl
