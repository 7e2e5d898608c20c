-- Menus and dialogs computed from the definitions: what screens show of them, and who owns some of their points.
use Rattle.std.proofs.Common.{◌≡◌, ℕ, zero, suc, refl, [], ◌∷◌}
use Rattle.std.specs.Prelude.{codes, Some, None, Option, List, ◌++◌}
use Rattle.unicode_segmentation.proofs.Computing.{unicode_segmentation}
use Rattle.unicode_width.proofs.Computing.{unicode_width}
use lib.Utf8.{encode}
use Rattle.scm_cells.specs.Clusters.{text_width, clusters, with_width, visible_clusters, visible_width, has_control}
use Rattle.scm_cells.specs.Row.{put, overlay, written, with_columns, whole_before, whole_after, cells_of, later_cells, row_text}
use Rattle.scm_cells.specs.Screen.{view_of}
use Rattle.scm_render.specs.Canvas.{Row}
use Rattle.scm_render.specs.Centring.{centred_gap, centred_size}
use Rattle.scm_render.specs.Lines.{line}
use Rattle.scm_widgets.specs.declared.ids.ComponentId.{ComponentId}
use Rattle.scm_widgets.specs.declared.ids.ComponentId.TheVariants as ids
use Rattle.scm_overlay.specs.declared.quit_dialog.QuitDialog.{QuitDialog}
use Rattle.scm_widgets.specs.declared.ids.QuitDialogButtonId.TheVariants.{Quit, GoBack}
use Rattle.scm_widgets.specs.Blanks.{blank_row}
use Rattle.scm_widgets.specs.Layers.{Layer, owned_by, shown_by, laid_over}
use Rattle.scm_widgets.specs.Buttons.{button_width, buttons_strip, leftmost}
use Rattle.scm_overlay.specs.Menus.{headers_strip, items_strips, open_menu_with_column, widest_item, menu_layer}
use Rattle.scm_widgets.specs.ShownDialogs.{ShownDialog}
use Rattle.scm_overlay.specs.Dialogs.{widest_line, dialog_layer}
use Rattle.scm_overlay.specs.declared.menu.Menu.{Menu}
use Rattle.scm_overlay.specs.Tables.{all_menus, edit_menu, file_menu, help_lines, menus_with, quit_dialog, select_menu, view_menu}
use Rattle.scm_worked_examples.proofs.Computing.{quoted}

-- ---- the columns of menus

-- the column of a menu's header
abbrev header_column : Option (ℕ × Menu) → Option ℕ
header_column None = None
header_column (Some m) = Some m.0

header_places : (header_column (open_menu_with_column 0 all_menus (Some 0)) ≡ Some 0) × (header_column (open_menu_with_column 0 all_menus (Some 1)) ≡ Some 7)
    × (header_column (open_menu_with_column 0 all_menus (Some 2)) ≡ Some 14) × (header_column (open_menu_with_column 0 all_menus (Some 3)) ≡ Some 23)
unfolding open_menu_with_column button_width text_width clusters visible_clusters with_width visible_width has_control unicode_segmentation unicode_width
header_places = (refl, refl, refl, refl)

menu_columns : (widest_item file_menu.items ≡ 13) × (widest_item edit_menu.items ≡ 36) × (widest_item select_menu.items ≡ 50) × (widest_item view_menu.items ≡ 38)
unfolding widest_item button_width text_width clusters visible_clusters with_width visible_width has_control unicode_segmentation unicode_width
menu_columns = (refl, refl, refl, refl)

-- ---- screens

-- rows of a screen of w columns from document row z on, under these layers
abbrev rows_under : List (Layer ComponentId) → ℕ → ℕ → ℕ → List Row
rows_under ls w z zero = []
rows_under ls w z (suc n) = shown_by ls z (blank_row w) ∷ rows_under ls w (suc z) n

abbrev one_file : QuitDialog
one_file = record { num_commit_messages = 0; num_changed_files = 1; focused_button = Quit }

-- the dialog for one file, with its text written out
abbrev ask : ShownDialog ComponentId
ask = record (quit_dialog one_file) { body = codes "You have changes to 1 file. Are you sure you want to quit?" ∷ [] }

-- ---- places on a screen of 80 by 24

-- 60 by 4 from column 10 and row 9 on
quit_place : (widest_line ask.body ≡ 58) × (centred_gap 80 60 60 ≡ 10) × (centred_size 80 60 60 ≡ 60) × (centred_gap 24 3 20 ≡ 9) × (centred_size 24 3 20 ≡ 4)
unfolding widest_line text_width clusters visible_clusters with_width visible_width has_control unicode_segmentation unicode_width
quit_place = (refl, refl, refl, refl, refl)

-- rows 2 to 20, all columns
help_place : (widest_line help_lines ≡ 80) × (centred_gap 80 82 60 ≡ 0) × (centred_size 80 82 60 ≡ 80) × (centred_gap 24 19 20 ≡ 2) × (centred_size 24 19 20 ≡ 19)
unfolding help_lines widest_line text_width clusters visible_clusters with_width visible_width has_control unicode_segmentation unicode_width
help_place = (refl, refl, refl, refl, refl)

-- ---- owners

abbrev bar : ℕ → Option ℕ → Layer ComponentId
bar s k = menu_layer 80 s (menus_with k)

-- beside an item, on an item, on a header, between headers, and below the menu; with a number past the menus none is open
menu_owners : (owned_by (bar 0 (Some 0) ∷ []) 1 30 ≡ Some ids.MenuBar) × (owned_by (bar 0 (Some 0) ∷ []) 2 3 ≡ Some (ids.MenuItem 1))
    × (owned_by (bar 0 (Some 0) ∷ []) 0 14 ≡ Some (ids.Menu 2)) × (owned_by (bar 0 None ∷ []) 0 13 ≡ Some ids.MenuBar)
    × (owned_by (bar 0 (Some 0) ∷ []) 3 3 ≡ None) × (owned_by (bar 0 (Some 4) ∷ []) 1 3 ≡ None)
unfolding owned_by line headers_strip items_strips open_menu_with_column widest_item button_width text_width clusters visible_clusters with_width visible_width has_control unicode_segmentation unicode_width
menu_owners = (refl, refl, refl, refl, refl, refl)

-- where the document is scrolled by one row, the dialog moves with it in the document's places
dialog_owners : (owned_by (dialog_layer 80 24 0 ask ∷ []) 12 55 ≡ Some (ids.QuitDialogButton GoBack)) × (owned_by (dialog_layer 80 24 0 ask ∷ []) 12 63 ≡ Some (ids.QuitDialogButton Quit))
    × (owned_by (dialog_layer 80 24 0 ask ∷ []) 12 62 ≡ Some ids.QuitDialog) × (owned_by (dialog_layer 80 24 0 ask ∷ []) 9 70 ≡ None)
    × (owned_by (dialog_layer 80 24 1 ask ∷ []) 13 55 ≡ Some (ids.QuitDialogButton GoBack)) × (owned_by (dialog_layer 80 24 1 ask ∷ []) 9 30 ≡ None)
unfolding owned_by line laid_over buttons_strip leftmost widest_line button_width text_width clusters visible_clusters with_width visible_width has_control unicode_segmentation unicode_width
dialog_owners = (refl, refl, refl, refl, refl, refl)

-- on 10 by 2 the button that goes on is cut at column 0, and the dialog owns the column beside it
narrow_owners : (owned_by (dialog_layer 10 2 0 ask ∷ []) 1 0 ≡ Some (ids.QuitDialogButton GoBack)) × (owned_by (dialog_layer 10 2 0 ask ∷ []) 1 2 ≡ Some ids.QuitDialog)
    × (owned_by (dialog_layer 10 2 0 ask ∷ []) 1 3 ≡ Some (ids.QuitDialogButton Quit)) × (owned_by (dialog_layer 10 2 0 ask ∷ []) 0 9 ≡ Some ids.QuitDialog)
unfolding owned_by line laid_over buttons_strip leftmost widest_line button_width text_width clusters visible_clusters with_width visible_width has_control unicode_segmentation unicode_width
narrow_owners = (refl, refl, refl, refl)

-- ---- what screens show

narrow_window : view_of (rows_under (dialog_layer 10 2 0 ask ∷ []) 10 0 2) ≡ quoted (codes "┌Quit────┐") ++ quoted (codes "k]─(Quit)┘")
unfolding shown_by line laid_over buttons_strip leftmost widest_line button_width text_width clusters visible_clusters with_width visible_width has_control put overlay written with_columns whole_before whole_after cells_of later_cells row_text encode unicode_segmentation unicode_width
narrow_window = refl

-- the menu bar, and the open menu below it, on 20 columns of a document that is scrolled by three rows
menu_window : view_of (rows_under (menu_layer 20 3 (menus_with (Some 0)) ∷ []) 20 3 4)
    ≡ quoted (codes "[File] [Edit] [Selec") ++ (quoted (codes "[Confirm (c)]       ") ++ (quoted (codes "[Quit (q)]          ") ++ quoted (codes "                    ")))
unfolding shown_by line headers_strip items_strips open_menu_with_column widest_item button_width text_width clusters visible_clusters with_width visible_width has_control put overlay written with_columns whole_before whole_after cells_of later_cells row_text encode unicode_segmentation unicode_width
menu_window = refl
