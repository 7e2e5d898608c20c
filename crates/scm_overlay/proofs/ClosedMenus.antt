-- The items of closed menus are not seen: the bar is drawn, owned and counted as if each of its menus had all its items.
use Rattle.std.proofs.Common.{◌≡◌, ℕ, zero, suc, refl}
use Rattle.std.specs.Prelude.{ℤ, Option, Some, None}
use Rattle.scm_cells.specs.declared.rect.Rect.{Rect}
use Rattle.scm_render.specs.Canvas.{Sight}
use Rattle.scm_overlay.specs.declared.menu_bar.MenuBar.{MenuBar}
use Rattle.scm_overlay.specs.Counts.{bar_calls}
use Rattle.scm_overlay.specs.Menus.{headers_strip, menu_bar_picture, menu_layer, open_menu, open_menu_with_column, placed_headers}
use Rattle.scm_overlay.specs.OverlayRects.{menu_bar_rects}
use Rattle.scm_overlay.specs.Tables.{all_menus, menus_with}

-- the menu bar with this open menu, if any, in which closed menus have their items too
abbrev pub full_bar : Option ℕ → MenuBar
full_bar k = record { menus = all_menus; expanded_menu_idx = k }

same_open : (k : Option ℕ) → open_menu (menus_with k) ≡ open_menu (full_bar k)
unfolding open_menu_with_column
same_open None = refl
same_open (Some zero) = refl
same_open (Some (suc zero)) = refl
same_open (Some (suc (suc zero))) = refl
same_open (Some (suc (suc (suc zero)))) = refl
same_open (Some (suc (suc (suc (suc k))))) = refl

same_strip : (w : ℕ) (k : Option ℕ) → headers_strip w 0 0 (menus_with k).menus ≡ headers_strip w 0 0 all_menus
unfolding headers_strip
same_strip w k = refl

same_places : (x y : ℤ) (k : Option ℕ) → placed_headers x y 0 (menus_with k).menus ≡ placed_headers x y 0 all_menus
unfolding placed_headers
same_places x y k = refl

-- what the screen shows of the bar, and who owns it
pub same_layer : (w s : ℕ) (k : Option ℕ) → menu_layer w s (menus_with k) ≡ menu_layer w s (full_bar k)
same_layer w s k = rw (same_open k, same_strip w k) refl

-- what a click finds
pub same_rects : (screen : Rect) (k : Option ℕ) → menu_bar_rects screen (menus_with k) ≡ menu_bar_rects screen (full_bar k)
same_rects screen k = rw (same_open k, same_places screen.x screen.y k) refl

-- what is drawn
pub same_picture : (s : Sight) (x y : ℤ) (k : Option ℕ) → menu_bar_picture (menus_with k) s x y ≡ menu_bar_picture (full_bar k) s x y
unfolding menu_bar_picture
same_picture s x y k = rw (same_open k, same_places x y k) refl

-- the draw calls
pub same_calls : (k : Option ℕ) → bar_calls (menus_with k) ≡ bar_calls (full_bar k)
unfolding bar_calls
same_calls k = rw (same_open k) refl
