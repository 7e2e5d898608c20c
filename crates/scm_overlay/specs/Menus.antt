-- The menu bar and its menus: their buttons, pictures and strips.
use Rattle.std.specs.Prelude.{ℕ, zero, suc, ◌+◌, max, min, ℤ, pos, ◌+ℤ◌, true, false, List, [], ◌∷◌, map, Option, Some, None}
use Rattle.scm_render.specs.Canvas.{Sight}
use Rattle.scm_render.specs.Picture.{Picture, nothing, followed_by, part}
use Rattle.scm_render.specs.Drawing.{row_rect, blank_picture}
use Rattle.scm_widgets.specs.declared.ids.ComponentId.{ComponentId}
use Rattle.scm_widgets.specs.declared.ids.ComponentId.TheVariants as ids
use Rattle.scm_widgets.specs.declared.button.Button.{Button}
use Rattle.scm_overlay.specs.declared.menu.MenuItem.{MenuItem}
use Rattle.scm_overlay.specs.declared.menu.Menu.{Menu}
use Rattle.scm_overlay.specs.declared.menu_bar.MenuBar.{MenuBar}
use Rattle.scm_widgets.specs.Layers.{Strip, Layer, over, clear, owned}
use Rattle.scm_widgets.specs.Blanks.{blank_strip}
use Rattle.scm_widgets.specs.declared.placed_button.PlacedButton.{PlacedButton}
use Rattle.scm_widgets.specs.Buttons.{button_part, button_strip, button_width, placed_button, placed_picture}

-- The header of menu `k` in the bar.
abbrev pub header_button : ℕ → Menu → Button ComponentId
header_button k m = record { id = ids.Menu k; label = m.label; is_focused = false }

-- The button of item `k` of a menu.
abbrev pub item_button : ℕ → MenuItem → Button ComponentId
item_button k item = record { id = ids.MenuItem k; label = item.label; is_focused = false }

-- The width of the widest item, in columns.
unfoldable pub widest_item : List MenuItem → ℕ
widest_item [] = 0
widest_item (t ∷ ts) = max (button_width (item_button 0 t)) (widest_item ts)

-- The width of a header and of the free column after it.
abbrev pub header_step : Menu → ℕ
header_step m = button_width (header_button 0 m) + 1

-- The open menu and the column of its header, if the first header begins at column `c`. An index past the menus opens none.
unfoldable pub open_menu_with_column : ℕ → List Menu → Option ℕ → Option (ℕ × Menu)
open_menu_with_column c ms None = None
open_menu_with_column c [] (Some k) = None
open_menu_with_column c (m ∷ ms) (Some zero) = Some (c, m)
open_menu_with_column c (m ∷ ms) (Some (suc k)) = open_menu_with_column (c + header_step m) ms (Some k)

-- The number of menus before the open one, or of all menus if none is open.
abbrev pub menus_before : Option ℕ → ℕ → ℕ
menus_before None count = count
menus_before (Some k) count = min k count

-- The width of headers side by side, each with the free column after it.
unfoldable pub headers_width : List Menu → ℕ
headers_width [] = 0
headers_width (m ∷ ms) = header_step m + headers_width ms

-- The open menu of a bar and the column of its header, if the first header begins at column 0.
abbrev pub open_menu : MenuBar → Option (ℕ × Menu)
open_menu b = open_menu_with_column 0 b.menus b.expanded_menu_idx

-- ---- where they stand

-- Headers side by side on row `y` from column `x` on; the first one is header `k`.
unfoldable pub placed_headers : ℤ → ℤ → ℕ → List Menu → List (PlacedButton ComponentId)
placed_headers x y k [] = []
placed_headers x y k (m ∷ ms) = placed_button x y (header_button k m) ∷ placed_headers (x +ℤ pos (header_step m)) y (suc k) ms

-- Items one per row from row `y` on, each from column `x` on; the first one is item `k`.
unfoldable pub placed_items : ℤ → ℤ → ℕ → List MenuItem → List (PlacedButton ComponentId)
placed_items x y k [] = []
placed_items x y k (t ∷ ts) = placed_button x y (item_button k t) ∷ placed_items x (y +ℤ pos 1) (suc k) ts

-- The items of the open menu, below its header, if the first header begins at column `x` of row `y`.
abbrev pub placed_open : ℤ → ℤ → Option (ℕ × Menu) → List (PlacedButton ComponentId)
placed_open x y None = []
placed_open x y (Some m) = placed_items (x +ℤ pos m.0) (y +ℤ pos 1) 0 m.1.items

-- ---- what they draw

-- Items in their places, each on `n` spaces.
unfoldable pub items_picture : ℕ → Sight → List (PlacedButton ComponentId) → Picture ComponentId
items_picture n s [] = nothing
items_picture n s (p ∷ ps) =
    followed_by (followed_by (blank_picture s (row_rect p.rect.x p.rect.y n)) (button_part p.button s p.rect.x p.rect.y)) (items_picture n s ps)

-- A menu: its items, each on spaces as wide as the widest item.
unfoldable pub menu_picture : List MenuItem → Sight → ℤ → ℤ → Picture ComponentId
menu_picture items s x y = items_picture (widest_item items) s (placed_items x y 0 items)

-- The open menu, below its header.
abbrev pub open_picture : Option (ℕ × Menu) → Sight → ℤ → ℤ → Picture ComponentId
open_picture None s x y = nothing
open_picture (Some m) s x y = part ids.MenuHeader (menu_picture m.1.items s (x +ℤ pos m.0) (y +ℤ pos 1))

-- Spaces on the screen's first row, the headers, and the open menu below its header.
unfoldable pub menu_bar_picture : MenuBar → Sight → ℤ → ℤ → Picture ComponentId
menu_bar_picture b s x y =
    followed_by (blank_picture s (row_rect s.rect.x s.rect.y s.rect.width))
    (followed_by (placed_picture s (placed_headers x y 0 b.menus)) (open_picture (open_menu b) s x y))

-- ---- what the screen shows of them, and its owners

-- Headers side by side from column `c` on; the first one is header `k`.
unfoldable pub headers_strip : ℕ → ℕ → ℕ → List Menu → Strip ComponentId
headers_strip w c k [] = clear
headers_strip w c k (m ∷ ms) =
    over (headers_strip w (c + header_step m) (suc k) ms) (button_strip w (pos c) (header_button k m))

-- Items one per row from column `c` on, each on `n` spaces; the first one is item `k`.
unfoldable pub items_strips : ℕ → ℕ → ℕ → ℕ → List MenuItem → List (Strip ComponentId)
items_strips w n c k [] = []
items_strips w n c k (t ∷ ts) =
    over (button_strip w (pos c) (item_button k t)) (blank_strip c (min w (c + n))) ∷ items_strips w n c (suc k) ts

-- The rows of the open menu.
abbrev pub open_strips : ℕ → Option (ℕ × Menu) → List (Strip ComponentId)
open_strips w None = []
open_strips w (Some m) = items_strips w (widest_item m.1.items) m.0 0 m.1.items

-- The bar's row and the rows of the open menu. The bar owns each column of them that no header or item owns.
abbrev pub menu_strips : ℕ → MenuBar → List (Strip ComponentId)
menu_strips w b =
    map (owned ids.MenuBar (λ x. true))
    (over (headers_strip w 0 0 b.menus) (blank_strip 0 w) ∷ open_strips w (open_menu_with_column 0 b.menus b.expanded_menu_idx))

-- The menu bar with its open menu, on a screen whose first row shows row `s` of the document.
abbrev pub menu_layer : ℕ → ℕ → MenuBar → Layer ComponentId
menu_layer w s b = record { first = s; strips = menu_strips w b }
