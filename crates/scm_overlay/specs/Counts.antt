-- The counts of drawing the menu bar and the dialogs.
use Rattle.std.specs.Prelude.{ℕ, ◌+◌, ◌*◌, length, Bool, true, false, Option, Some, None}
use Rattle.scm_overlay.specs.declared.menu.Menu.{Menu}
use Rattle.scm_overlay.specs.declared.menu_bar.MenuBar.{MenuBar}
use Rattle.scm_overlay.specs.declared.quit_dialog.QuitDialog.{QuitDialog}
use Rattle.scm_overlay.specs.Menus.{open_menu}

-- ---- overlays

-- the draw calls of the open menu: a blank and a button for each item
abbrev pub open_calls : Option (ℕ × Menu) → ℕ
open_calls None = 0
open_calls (Some m) = 2 * length m.1.items

-- the draw calls of menu bar b: a blank, a button for each menu, and those of the open menu
unfoldable pub bar_calls : MenuBar → ℕ
bar_calls b = 1 + (length b.menus + open_calls (open_menu b))

-- the draw calls of the quit dialog: a frame and two buttons
abbrev pub quit_calls : Option QuitDialog → ℕ
quit_calls None = 0
quit_calls (Some q) = 3

-- the draw calls of the help: a frame and a button
abbrev pub help_calls : Bool → ℕ
help_calls true = 2
help_calls false = 0
