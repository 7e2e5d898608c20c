-- What screens of two commits that are computed from the definitions share: what computing opens, and texts of screens.
use Rattle.std.proofs.Common.{ℕ, ◌∷◌, []}
use Rattle.std.specs.Fmt.{digits}
use Rattle.std.specs.Prelude.{List, ◌++◌, encode_utf8_all}
use Rattle.unicode_segmentation.proofs.Computing.{unicode_segmentation}
use Rattle.unicode_width.proofs.Computing.{unicode_width}
use lib.Utf8.{encode}
use Rattle.scm_cells.specs.Clusters.{text_width, clusters, with_width, visible_clusters, visible_width, has_control}
use Rattle.scm_cells.specs.Replaced.{line_pieces, pieces_from, replacement}
use Rattle.scm_cells.specs.Row.{put, overlay, written, with_columns, whole_before, whole_after, cells_of, later_cells, row_text}
use Rattle.scm_render.specs.Drawing.{texts_width}
use Rattle.scm_render.specs.Lines.{line}
use Rattle.scm_render.specs.Rows.{put_texts, say_texts}
use Rattle.scm_widgets.specs.Buttons.{button_width, buttons_strip, leftmost}
use Rattle.scm_widgets.specs.Layers.{shown_by, owned_by, laid_over}
use Rattle.scm_document.specs.DocumentRows.{rows_of_key}
use Rattle.scm_document.specs.Places.{rows_places, sections_places, files_places}
use Rattle.scm_document.specs.Rows.{shown_file, shown_sections, section_rows, context_rows, rows_of_lines, file_rows, sections_rows}
use Rattle.scm_overlay.specs.Dialogs.{widest_line}
use Rattle.scm_overlay.specs.Menus.{headers_strip, items_strips, open_menu_with_column, widest_item}
use Rattle.scm_overlay.specs.Tables.{help_lines}
use Rattle.scm_strips.specs.AreaStrips.{area_section, area_sections, area_file, area_files, area_pinned, area_message}
use Rattle.scm_strips.specs.Parts.{owner_in}
use Rattle.scm_view.specs.ViewState.{commit_at, file_views_of, section_views_of, are_all_expanded}
use Rattle.scm_view.specs.Window.{rows_from}
use Rattle.scm_document.specs.FilesRows.{files_rows}
use Rattle.scm_screen.specs.DocumentRows.{file_over}
use Rattle.scm_screen.specs.Beside.{documents_layers, extent_beside, owner_beside, rows_beside, span_beside, window_beside}

-- the rows of documents and where they stand
unfoldable pub documents : Unit {0}
unfolding digits commit_at file_views_of section_views_of are_all_expanded shown_file shown_sections section_rows context_rows rows_of_lines file_rows sections_rows area_message area_files area_file area_sections area_section area_pinned documents_layers rows_beside items_strips open_menu_with_column widest_item extent_beside span_beside rows_of_key files_places sections_places rows_places files_rows file_over
documents = tt

-- the columns of texts
unfoldable pub widths : Unit {0}
unfolding unicode_segmentation unicode_width text_width texts_width clusters visible_clusters with_width visible_width has_control button_width widest_line help_lines line_pieces pieces_from replacement encode
widths = tt

-- who owns columns
unfoldable pub owners : Unit {0}
unfolding documents widths line headers_strip laid_over buttons_strip leftmost owner_beside owned_by owner_in
owners = tt

-- what rows show
unfoldable pub screens : Unit {0}
unfolding documents widths line headers_strip laid_over buttons_strip leftmost window_beside rows_from shown_by put_texts say_texts put overlay written with_columns whole_before whole_after cells_of later_cells row_text
screens = tt

-- a row of a screen with these characters, as text
abbrev pub quoted : List ℕ → List ℕ
quoted t = 34 ∷ (encode_utf8_all t ++ (34 ∷ (10 ∷ [])))
