-- What screens computed from the definitions share: what computing opens, texts of screens, and keys of the first file.
use Rattle.std.proofs.Common.{ℕ, [], ◌∷◌}
use Rattle.std.specs.Fmt.{digits}
use Rattle.std.specs.Prelude.{Some, None, Option, List, ◌++◌, encode_utf8_all, replicate, fold}
use Rattle.unicode_segmentation.proofs.Computing.{unicode_segmentation}
use Rattle.unicode_width.proofs.Computing.{unicode_width}
use lib.Utf8.{encode}
use Rattle.scm_types.specs.declared.file.File.{File}
use Rattle.scm_types.specs.declared.file_mode.FileMode.TheVariants.{Unix}
use Rattle.scm_types.specs.declared.section.Section.{Section}
use Rattle.scm_cells.specs.Clusters.{text_width, clusters, with_width, visible_clusters, visible_width, has_control}
use Rattle.scm_cells.specs.Replaced.{line_pieces, pieces_from, replacement}
use Rattle.scm_cells.specs.Row.{put, overlay, written, with_columns, whole_before, whole_after, cells_of, later_cells, row_text}
use Rattle.scm_cells.specs.Screen.{view_of}
use Rattle.scm_render.specs.Drawing.{reach, texts_width}
use Rattle.scm_render.specs.Lines.{line}
use Rattle.scm_render.specs.Rows.{put_texts, say_texts}
use Rattle.scm_types.specs.declared.keys.SelectionKey.{SelectionKey}
use Rattle.scm_types.specs.declared.keys.SelectionKey.TheVariants as keys
use Rattle.scm_widgets.specs.declared.ids.ComponentId.{ComponentId}
use Rattle.scm_widgets.specs.declared.ids.ComponentId.TheVariants as ids
use Rattle.scm_view.specs.AppView.{app_counts}
use Rattle.scm_document.specs.ViewColumns.{views_counts}
use Rattle.scm_document.specs.RowIndex.{section_parts, sections_parts, files_parts, message_parts}
use Rattle.scm_document.specs.Counts.{document_counts, message_counts, files_counts, file_counts, pinned_counts, sections_counts, rows_counts}
use Rattle.scm_widgets.specs.Counts.{on_row}
use Rattle.scm_overlay.specs.Counts.{bar_calls}
use Rattle.scm_widgets.specs.Buttons.{button_width, buttons_strip, leftmost}
use Rattle.scm_overlay.specs.Dialogs.{widest_line}
use Rattle.scm_widgets.specs.Layers.{shown_by, owned_by, laid_over}
use Rattle.scm_overlay.specs.Menus.{headers_strip, items_strips, open_menu_with_column, widest_item}
use Rattle.scm_document.specs.Places.{rows_places, sections_places, files_places}
use Rattle.scm_document.specs.Rows.{shown_file, shown_sections, section_rows, context_rows, rows_of_lines, file_rows, sections_rows}
use Rattle.scm_view.specs.ViewState.{ViewState, commit_at, file_views_of, section_views_of, are_all_expanded}
use Rattle.scm_document.specs.Strips.{row_strip, message_strips, files_strips, file_strips, sections_strips, section_strips, pinned_strips}
use Rattle.scm_overlay.specs.Tables.{help_lines}
use Rattle.scm_view.specs.Window.{rows_from, window, owner, span, extent}
use Rattle.scm_document.specs.DocumentRows.{rows_of_key}

-- ---- what computing opens: the rows of a document with where they stand, the widths of texts, owners, and what rows show

unfoldable pub documents : Unit {0}
unfolding digits commit_at file_views_of section_views_of are_all_expanded shown_file shown_sections section_rows context_rows rows_of_lines file_rows sections_rows message_strips files_strips file_strips sections_strips section_strips pinned_strips items_strips open_menu_with_column widest_item extent span rows_of_key files_places sections_places rows_places
documents = tt

-- how much is drawn of them
unfoldable pub counting : Unit {0}
unfolding documents app_counts views_counts document_counts message_counts files_counts file_counts pinned_counts sections_counts rows_counts on_row bar_calls reach section_parts sections_parts files_parts message_parts
counting = tt

unfoldable pub widths : Unit {0}
unfolding unicode_segmentation unicode_width text_width clusters visible_clusters with_width visible_width has_control button_width widest_line help_lines
widths = tt

unfoldable pub owners : Unit {0}
unfolding documents widths row_strip line headers_strip laid_over buttons_strip leftmost owner owned_by
owners = tt

unfoldable pub screens : Unit {0}
unfolding documents widths row_strip line headers_strip laid_over buttons_strip leftmost window rows_from shown_by encode put_texts say_texts line_pieces pieces_from replacement texts_width put overlay written with_columns whole_before whole_after cells_of later_cells row_text
screens = tt

-- ---- texts of screens

abbrev pub blanks : ℕ → List ℕ
blanks n = replicate n 32

abbrev pub quoted : List ℕ → List ℕ
quoted t = 34 ∷ (encode_utf8_all t ++ (34 ∷ (10 ∷ [])))

-- rows of a screen, one below another
abbrev pub all_quoted : List (List ℕ) → List ℕ
all_quoted rows = fold (λ text row. text ++ quoted row) [] rows

-- a whole screen
abbrev pub shot : ℕ → ℕ → ℕ → ViewState → List ℕ
shot w h s shown = view_of (window w h s shown)

-- ---- keys of one file, and the file

abbrev pub file_key : SelectionKey
file_key = keys.File (record { commit_idx = 0; file_idx = 0 })

abbrev pub section_key : ℕ → SelectionKey
section_key i = keys.Section (record { commit_idx = 0; file_idx = 0; section_idx = i })

abbrev pub line_key : ℕ → ℕ → SelectionKey
line_key i k = keys.Line (record { commit_idx = 0; file_idx = 0; section_idx = i; line_idx = k })

-- a file of sections
abbrev pub file_of : List ℕ → List Section → File
file_of path sections = record { old_path = None; path = path; file_mode = Unix 33188; sections = sections }

-- ---- owners

abbrev pub item : SelectionKey → Option ComponentId
item key = Some (ids.SelectableItem key)

abbrev pub toggle : SelectionKey → Option ComponentId
toggle key = Some (ids.ToggleBox key)

abbrev pub header : Option ComponentId
header = Some (ids.FileViewHeader (record { commit_idx = 0; file_idx = 0 }))
