-- The widths of menus and dialogs, part by part.
use Rattle.std.proofs.Common.{◌≡◌, ℕ, ◌+◌, ◌<◌, ◌≤◌, max, List, length, drop, get_or, refl, arith, add-one, drop-cons}
use Rattle.std.proofs.lemmas.List.{drop_all}
use denote.Ref.{Bor}
use Rattle.scm_cells.specs.Clusters.{text_width}
use Rattle.scm_render.specs.Drawing.{body_texts}
use Rattle.scm_overlay.specs.declared.menu.MenuItem.{MenuItem}
use Rattle.scm_overlay.specs.declared.menu.Menu.{Menu}
use Rattle.scm_widgets.specs.Buttons.{button_width}
use Rattle.scm_overlay.specs.Menus.{header_button, item_button, widest_item}
use Rattle.scm_overlay.specs.Dialogs.{widest_line}

-- ---- the widest

pub widest_item-more : (ts : List MenuItem) (i n : ℕ) (d : MenuItem) → i < length ts
    → max (max n (button_width (item_button 0 (get_or ts i d)))) (widest_item (drop (i + 1) ts)) ≡ max n (widest_item (drop i ts))
unfolding widest_item
widest_item-more ts i n d h = rw (add-one, drop-cons ts i d h) (omega arith)

pub widest_item-end : (ts : List MenuItem) (i n : ℕ) → length ts ≤ i → max n (widest_item (drop i ts)) ≡ n
unfolding widest_item
widest_item-end ts i n h = rw (drop_all i ts h) (omega arith)

pub widest_line-more : (ls : List (Bor (List ℕ))) (i n : ℕ) (d : Bor (List ℕ)) → i < length ls
    → max (max n (text_width (get_or ls i d).now)) (widest_line (body_texts (drop (i + 1) ls))) ≡ max n (widest_line (body_texts (drop i ls)))
unfolding widest_line
widest_line-more ls i n d h = rw (add-one, drop-cons ls i d h) (omega arith)

pub widest_line-end : (ls : List (Bor (List ℕ))) (i n : ℕ) → length ls ≤ i → max n (widest_line (body_texts (drop i ls))) ≡ n
unfolding widest_line
widest_line-end ls i n h = rw (drop_all i ls h) (omega arith)

-- ---- headers

-- a header's columns do not depend on its number
pub header-width : (k : ℕ) (m : Menu) → button_width (header_button k m) ≡ button_width (header_button 0 m)
unfolding button_width
header-width k m = refl
