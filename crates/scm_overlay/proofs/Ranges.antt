-- Labels that are short enough for all places of menus and dialogs to be in range.
use Rattle.std.specs.Prelude.{ℕ, ◌+◌, ◌^◌, ◌≤◌, List, [], ◌∷◌, length, Option, Some, None}
use Rattle.scm_types.specs.Limits.{max_text}
use Rattle.scm_widgets.specs.declared.button.Button.{Button}
use Rattle.scm_overlay.specs.declared.menu.Menu.{Menu}
use Rattle.scm_overlay.specs.declared.menu_bar.MenuBar.{MenuBar}
use Rattle.scm_widgets.specs.Buttons.{button_width}
use Rattle.scm_overlay.specs.Menus.{widest_item, headers_width, open_menu_with_column}

-- a number of rows or columns that no screen, scroll or label exceeds
abbrev pub most : ℕ
most = 2 ^ 41

abbrev pub IsShortMenu : Option (ℕ × Menu) → Type 0
IsShortMenu None = Unit {0}
IsShortMenu (Some m) = (m.0 + widest_item m.1.items ≤ max_text) × (length m.1.items ≤ max_text)

abbrev pub IsShortBar : MenuBar → Type 0
IsShortBar b = (headers_width b.menus ≤ max_text) × IsShortMenu (open_menu_with_column 0 b.menus b.expanded_menu_idx)

-- the columns of buttons, with one between two
unfoldable pub button_columns : {K : Type 0} → List (Button K) → ℕ
button_columns [] = 0
button_columns (b ∷ bs) = button_width b + 1 + button_columns bs
