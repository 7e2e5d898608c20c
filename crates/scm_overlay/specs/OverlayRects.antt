-- Overlay rectangles: the rectangles over the rows of files, each with its owner. Where two overlap, the later one owns the place.
use Rattle.std.specs.Prelude.{ℕ, ◌+◌, ℤ, ◌-ℤ◌, List, [], ◌∷◌, ◌++◌, length, Option, Some, None, Bool, true, false}
use Rattle.std.specs.Int.{int_min}
use Rattle.scm_cells.specs.Rect.{end_x_of, end_y_of, or_zero}
use Rattle.scm_cells.specs.declared.rect.Rect.{Rect}
use Rattle.scm_widgets.specs.declared.ids.ComponentId.{ComponentId}
use Rattle.scm_widgets.specs.declared.ids.ComponentId.TheVariants as ids
use Rattle.scm_widgets.specs.declared.overlay_rects.OverlayRect.{OverlayRect}
use Rattle.scm_widgets.specs.declared.placed_button.PlacedButton.{PlacedButton}
use Rattle.scm_widgets.specs.OverlayRects.{button_rects}
use Rattle.scm_widgets.specs.ShownDialogs.{ShownDialog}
use Rattle.scm_overlay.specs.declared.menu.Menu.{Menu}
use Rattle.scm_overlay.specs.declared.menu_bar.MenuBar.{MenuBar}
use Rattle.scm_overlay.specs.declared.quit_dialog.QuitDialog.{QuitDialog}
use Rattle.scm_overlay.specs.Dialogs.{dialog_buttons, dialog_rect}
use Rattle.scm_overlay.specs.Menus.{open_menu, placed_headers, placed_open}
use Rattle.scm_overlay.specs.Tables.{quit_dialog, help_dialog}

-- The number of items of the open menu.
abbrev pub open_menu_height : Option (ℕ × Menu) → ℕ
open_menu_height None = 0
open_menu_height (Some m) = length m.1.items

-- The menu bar with its open menu, on a screen that shows the part `screen` of the document.
abbrev pub menu_bar_rects : Rect → MenuBar → List OverlayRect
menu_bar_rects screen b =
    record { id = ids.MenuBar; rect = record screen { height = 1 + open_menu_height (open_menu b) } }
    ∷ button_rects (placed_headers screen.x screen.y 0 b.menus ++ placed_open screen.x screen.y (open_menu b))

-- The least first column of the buttons, or `l` if that is less.
abbrev pub least_column : ℤ → List (PlacedButton ComponentId) → ℤ
least_column l [] = l
least_column l (p ∷ ps) = least_column (int_min l p.rect.x) ps

-- A dialog in the rectangle `r`, and its buttons. Buttons that begin left of `r` make it wider.
abbrev pub placed_dialog_rects : ShownDialog ComponentId → Rect → List OverlayRect
placed_dialog_rects d r =
    let bs = dialog_buttons d r in
    let x = least_column r.x bs in
    record { id = d.id; rect = record r { x = x; width = or_zero (end_x_of r -ℤ x) } } ∷ button_rects bs

-- The dialog in the middle of the screen.
abbrev pub dialog_rects : Rect → ShownDialog ComponentId → List OverlayRect
dialog_rects screen d = placed_dialog_rects d (dialog_rect d screen)

-- The row range of the dialog: its first row and its end row (exclusive).
abbrev pub dialog_run : Rect → ShownDialog ComponentId → ℕ × ℕ
dialog_run screen d = (or_zero (dialog_rect d screen).y, or_zero (end_y_of (dialog_rect d screen)))

-- The quit dialog and its buttons, if it is open.
abbrev pub quit_dialog_rects : Rect → Option QuitDialog → List OverlayRect
quit_dialog_rects screen None = []
quit_dialog_rects screen (Some q) = dialog_rects screen (quit_dialog q)

-- The help dialog and its button, if it is open.
abbrev pub help_dialog_rects : Rect → Bool → List OverlayRect
help_dialog_rects screen true = dialog_rects screen help_dialog
help_dialog_rects screen false = []
