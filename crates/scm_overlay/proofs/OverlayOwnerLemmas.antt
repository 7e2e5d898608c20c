-- The overlay rectangles of the menu bar and of dialogs have the owners that their layers name.
use Rattle.std.proofs.Common.{◌≡◌, ℕ, zero, suc, ◌+◌, ◌-◌, ◌<◌, ◌≤◌, Bool, true, false, ◌&&◌, cond, List, [], ◌∷◌, ◌++◌, length, map, take, replicate, refl, sym, ap, ap₂, ◌∙◌, arith}
use Rattle.std.specs.Prelude.{ℤ, pos, ◌+ℤ◌, ◌-ℤ◌, int_le, int_lt, if◌then◌else◌, min, Option, Some, None}
use Rattle.std.specs.Ordering.{int_eq}
use Rattle.std.specs.Int.{int_min}
use Rattle.std.proofs.lemmas.Bool.Decides.{nat_tests, Decides-int_eq}
use Rattle.std.proofs.lemmas.Int.{ints}
use Rattle.std.proofs.lemmas.List.{length-map}
use Rattle.scm_cells.specs.Rect.{or_zero}
use Rattle.scm_cells.proofs.RectLemmas.{places}
use Rattle.scm_render.specs.Hits.{first_of_two}
use Rattle.scm_render.specs.Lines.{line}
use Rattle.scm_render.proofs.LineLemmas.{line-below}
use Rattle.scm_render.proofs.HitLemmas.{two_none}
use Rattle.scm_render.specs.Centring.{centred_gap, centred_size}
use Rattle.scm_widgets.specs.declared.ids.ComponentId.{ComponentId}
use Rattle.scm_widgets.specs.declared.ids.ComponentId.TheVariants as ids
use Rattle.scm_widgets.specs.declared.button.Button.{Button}
use Rattle.scm_widgets.specs.ShownDialogs.{ShownDialog}
use Rattle.scm_widgets.specs.Screens.{screen}
use Rattle.scm_widgets.specs.Layers.{Strip, clear, over, owned, is_within, strip_at, owned_by, laid_over}
use Rattle.scm_widgets.specs.Buttons.{button_width, button_strip, buttons_strip, leftmost, placed_from_right}
use Rattle.scm_widgets.specs.Blanks.{blank_strip}
use Rattle.scm_widgets.specs.OverlayRects.{button_rects, overlay_owner}
use Rattle.scm_widgets.proofs.DrawsStrips.{line-owned, line-more, line-over, length-laid_over}
use Rattle.scm_widgets.proofs.OverlayRectLemmas.{line-one, row-cell, spots-append, within-all}
use Rattle.scm_widgets.proofs.PlacedLemmas.{rects-append}
use Rattle.scm_overlay.specs.declared.menu.MenuItem.{MenuItem}
use Rattle.scm_overlay.specs.declared.menu.Menu.{Menu}
use Rattle.scm_overlay.specs.declared.menu_bar.MenuBar.{MenuBar}
use Rattle.scm_overlay.specs.declared.quit_dialog.QuitDialog.{QuitDialog}
use Rattle.scm_overlay.specs.Dialogs.{widest_line, edge, put_strip, border_strips, frame_strips, is_dialog_column, dialog_strips, dialog_layer}
use Rattle.scm_overlay.specs.Tables.{menus_with, quit_dialog, help_dialog}
use Rattle.scm_overlay.specs.Overlays.{quit_layers, help_layers, overlays}
use Rattle.scm_overlay.specs.Menus.{header_button, item_button, header_step, widest_item, open_menu, placed_headers, placed_items, placed_open, headers_strip, items_strips, open_strips, menu_strips, menu_layer}
use Rattle.scm_overlay.specs.OverlayRects.{open_menu_height, menu_bar_rects, least_column, placed_dialog_rects, dialog_rects, quit_dialog_rects, help_dialog_rects}
use Rattle.scm_overlay.proofs.OverlayLemmas.{owned-append}
use Rattle.scm_overlay.proofs.DialogLemmas.{at, length-border, centred_60, centred_20, rect-is}
use Rattle.scm_overlay.proofs.MenuLemmas.{length-items}

-- ---- buttons on one row

if-none : {K : Type 0} (t : Bool) → ◌≡◌ {A = Option K} (if t then None else None) None
if-none true = refl
if-none false = refl

two_if : {K : Type 0} (t : Bool) (a b : Option K) → first_of_two (if t then a else None) (if t then b else None) ≡ (if t then first_of_two a b else None)
two_if true a b = refl
two_if false a b = refl

headers-owner : (w z c k x : ℕ) (y : ℤ) (ms : List Menu) → overlay_owner (button_rects (placed_headers (pos c) y k ms)) z x ≡ (if int_eq (pos z) y then (headers_strip w c k ms).owner x else None)
unfolding headers_strip placed_headers
headers-owner w z c k x y [] = sym (if-none (int_eq (pos z) y))
headers-owner w z c k x y (m ∷ ms) =
    ap₂ first_of_two (headers-owner w z (c + header_step m) (suc k) x y ms) (row-cell (ids.Menu k) (pos c) y (button_width (header_button k m)) z x)
    ∙ two_if (int_eq (pos z) y) ((headers_strip w (c + header_step m) (suc k) ms).owner x) (cond (is_within (pos c) (button_width (header_button k m)) x) (Some (ids.Menu k)) None)

buttons-owner : (w z x : ℕ) (end y : ℤ) (bs : List (Button ComponentId)) → overlay_owner (button_rects (placed_from_right end y bs)) z x ≡ (if int_eq (pos z) y then (buttons_strip w end bs).owner x else None)
unfolding buttons_strip placed_from_right
buttons-owner w z x end y [] = sym (if-none (int_eq (pos z) y))
buttons-owner w z x end y (b ∷ bs) =
    let c = end -ℤ pos (button_width b) in
    ap₂ first_of_two (buttons-owner w z x (c -ℤ pos 1) y bs) (row-cell b.id c y (button_width b) z x)
    ∙ two_if (int_eq (pos z) y) ((buttons_strip w (c -ℤ pos 1) bs).owner x) (cond (is_within c (button_width b) x) (Some b.id) None)

-- ---- the open menu

items-owner : (w n z c k x : ℕ) (y : ℤ) (ts : List MenuItem) → overlay_owner (button_rects (placed_items (pos c) y k ts)) z x ≡ (line clear (items_strips w n c k ts) y (pos z)).owner x
unfolding items_strips placed_items line
items-owner w n z c k x y [] = refl
items-owner w n z c k x y (t ∷ ts) =
    ap₂ first_of_two (items-owner w n z c (suc k) x (y +ℤ pos 1) ts) (row-cell (ids.MenuItem k) (pos c) y (button_width (item_button k t)) z x)
    ∙ go (int_eq (pos z) y) refl
  where
    own : (o : Option ComponentId) → first_of_two None o ≡ first_of_two o None
    own None = refl
    own (Some i) = refl

    go : (b : Bool) → int_eq (pos z) y ≡ b
        → first_of_two ((line clear (items_strips w n c (suc k) ts) (y +ℤ pos 1) (pos z)).owner x) (if b then cond (is_within (pos c) (button_width (item_button k t)) x) (Some (ids.MenuItem k)) None else None)
        ≡ (cond b (over (button_strip w (pos c) (item_button k t)) (blank_strip c (min w (c + n)))) (line clear (items_strips w n c (suc k) ts) (y +ℤ pos 1) (pos z))).owner x
    go true e =
        let same : pos z ≡ y = (Decides-int_eq (pos z) y).0 e in
        let none : line clear (items_strips w n c (suc k) ts) (y +ℤ pos 1) (pos z) ≡ clear = line-below clear (items_strips w n c (suc k) ts) (y +ℤ pos 1) (pos z) (omega (arith, ints, same)) in
        ap (λ (s : Strip ComponentId). first_of_two (s.owner x) (cond (is_within (pos c) (button_width (item_button k t)) x) (Some (ids.MenuItem k)) None)) none
        ∙ own (cond (is_within (pos c) (button_width (item_button k t)) x) (Some (ids.MenuItem k)) None)
    go false e = two_none ((line clear (items_strips w n c (suc k) ts) (y +ℤ pos 1) (pos z)).owner x)

open-owner : (w z x : ℕ) (y : ℤ) (m : Option (ℕ × Menu)) → overlay_owner (button_rects (placed_open (pos 0) y m)) z x ≡ (line clear (open_strips w m) (y +ℤ pos 1) (pos z)).owner x
unfolding line
open-owner w z x y None = refl
open-owner w z x y (Some m) =
    let column : 0 + m.0 ≡ m.0 = omega arith in
    rw column (items-owner w (widest_item m.1.items) z m.0 0 x (y +ℤ pos 1) m.1.items)

length-open : (w : ℕ) (m : Option (ℕ × Menu)) → length (open_strips w m) ≡ open_menu_height m
length-open w None = refl
length-open w (Some m) = length-items w (widest_item m.1.items) m.0 0 m.1.items

-- ---- the bar

bar-last : (a b : Bool) (i : ComponentId) → b ≡ true → ◌≡◌ {A = Option ComponentId} (if a && b then Some i else None) (cond (a && true) (Some i) None)
bar-last a b i e = rw e refl

pub bar-owner : (w h s z x : ℕ) (b : MenuBar) → x < w → overlay_owner (menu_bar_rects (screen w h s) b) z x ≡ (line clear (menu_strips w b) (pos s) (pos z)).owner x
bar-owner w h s z x b within =
    let m = open_menu b in
    let heads = placed_headers (pos 0) (pos s) 0 b.menus in
    let items = placed_open (pos 0) (pos s) m in
    let head : Strip ComponentId = over (headers_strip w 0 0 b.menus) (blank_strip 0 w) in
    let inner : List (Strip ComponentId) = head ∷ open_strips w m in
    let size : length inner ≡ 1 + open_menu_height m = ap suc (length-open w m) ∙ omega arith in
    let first : (line clear (head ∷ []) (pos s) (pos z)).owner x ≡ (if int_eq (pos z) (pos s) then (headers_strip w 0 0 b.menus).owner x else None) =
    line-one head (pos s) (pos z) x ∙ ap (λ o. if int_eq (pos z) (pos s) then o else None) (two_none ((headers_strip w 0 0 b.menus).owner x)) in
    let parts : overlay_owner (button_rects (heads ++ items)) z x ≡ (line clear inner (pos s) (pos z)).owner x =
    ap (λ r. overlay_owner r z x) (rects-append heads items) ∙ spots-append (button_rects heads) (button_rects items) z x
    ∙ ap₂ first_of_two (open-owner w z x (pos s) m) (headers-owner w z 0 0 x (pos s) b.menus ∙ sym first)
    ∙ ap (λ (k : Strip ComponentId). k.owner x) (line-more (head ∷ []) (open_strips w m) (pos s) (pos z)) in
    ap₂ first_of_two parts
    (bar-last (is_within (pos s) (1 + open_menu_height m) z) (is_within (pos 0) w x) ids.MenuBar (within-all w x within)
    ∙ ap (λ n. cond (is_within (pos s) n z && true) (Some ids.MenuBar) None) (sym size))
    ∙ line-owned ids.MenuBar (λ x. true) inner (pos s) (pos z) x

-- ---- strips that own nothing

module _ (x : ℕ) where
  abbrev Ownerless : List (Strip ComponentId) → Type 0
  Ownerless [] = Unit {0}
  Ownerless (s ∷ ss) = (s.owner x ≡ None) × Ownerless ss

  less-line : (ss : List (Strip ComponentId)) (y z : ℤ) → Ownerless ss → (line clear ss y z).owner x ≡ None
  unfolding line
  less-line [] y z h = refl
  less-line (s ∷ ss) y z h = go (int_eq z y) (less-line ss (y +ℤ pos 1) z h.1)
    where
      go : (t : Bool) → (line clear ss (y +ℤ pos 1) z).owner x ≡ None → (cond t s (line clear ss (y +ℤ pos 1) z)).owner x ≡ None
      go true e = h.0
      go false e = e

  less-append : (ss ts : List (Strip ComponentId)) → Ownerless ss → Ownerless ts → Ownerless (ss ++ ts)
  less-append [] ts h k = k
  less-append (s ∷ ss) ts h k = (h.0, less-append ss ts h.1 k)

  less-replicate : (n : ℕ) (s : Strip ComponentId) → s.owner x ≡ None → Ownerless (replicate n s)
  less-replicate zero s h = tt
  less-replicate (suc n) s h = (h, less-replicate n s h)

  less-texts : (c low high : ℕ) (ts : List (List ℕ)) → Ownerless (map (λ t. put_strip c t low high) ts)
  less-texts c low high [] = tt
  less-texts c low high (t ∷ ts) = (refl, less-texts c low high ts)

  less-over : (k : ℕ) (ss ts : List (Strip ComponentId)) → Ownerless ss → Ownerless ts → Ownerless (laid_over k ss ts)
  unfolding laid_over
  less-over k [] ts h g = g
  less-over zero (s ∷ ss) [] h g = tt
  less-over (suc k) (s ∷ ss) [] h g = tt
  less-over zero (s ∷ ss) (t ∷ ts) h g = (rw (h.0, g.0) refl, less-over zero ss ts h.1 g.1)
  less-over (suc k) (s ∷ ss) (t ∷ ts) h g = (g.0, less-over k (s ∷ ss) ts h g.1)

  less-border : (c n m : ℕ) → Ownerless (border_strips c n m)
  less-border c n m = (refl, less-append (replicate (m - 2) (put_strip c (edge 0x2502 0x20 0x2502 n) c (c + n))) (put_strip c (edge 0x2514 0x2500 0x2518 n) c (c + n) ∷ []) (less-replicate (m - 2) (put_strip c (edge 0x2502 0x20 0x2502 n) c (c + n)) refl) (refl, tt))

-- ---- dialogs

least-is : (l end y : ℤ) (bs : List (Button ComponentId)) → least_column l (placed_from_right end y bs) ≡ leftmost l end bs
unfolding leftmost placed_from_right
least-is l end y [] = refl
least-is l end y (b ∷ bs) = least-is (int_min l (end -ℤ pos (button_width b))) ((end -ℤ pos (button_width b)) -ℤ pos 1) y bs

column-is : (l : ℤ) (e x : ℕ) → is_within l (or_zero (pos e -ℤ l)) x ≡ (int_le l (pos x) && int_lt (pos x) (pos e))
column-is l e x = go (int_le l (pos x) && int_lt (pos x) (pos e)) refl
  where
    go : (t : Bool) → (int_le l (pos x) && int_lt (pos x) (pos e)) ≡ t → is_within l (or_zero (pos e -ℤ l)) x ≡ t
    go true h = grind (arith, places, nat_tests, h)
    go false h = grind (arith, places, nat_tests, h)

own-if : (a b c : Bool) (i : ComponentId) → b ≡ c → ◌≡◌ {A = Option ComponentId} (if a && b then Some i else None) (cond (a && c) (Some i) None)
own-if a b c i e = rw e refl

pub placed-owner : (w y z x c n m : ℕ) (d : ShownDialog ComponentId) → 2 ≤ n → 2 ≤ m
    → overlay_owner (placed_dialog_rects d (at c y n m)) z x ≡ (line clear (dialog_strips w d c n m) (pos y) (pos z)).owner x
placed-owner w y z x c n m d wide high =
    let title : List (Strip ComponentId) = put_strip (c + 1) d.title (c + 1) (c + n - 1) ∷ [] in
    let texts : List (Strip ComponentId) = map (λ t. put_strip (c + 1) t (c + 1) (c + n - 1)) (take (m - 2) d.body) in
    let lower : List (Strip ComponentId) = laid_over 1 texts (laid_over 0 title (border_strips c n m)) in
    let end : ℤ = pos (c + n) -ℤ pos 1 in
    let low : ℤ = (pos y +ℤ pos m) -ℤ pos 1 in
    let row : List (Strip ComponentId) = buttons_strip w end d.buttons ∷ [] in
    let size : length lower ≡ m = length-laid_over 1 texts (laid_over 0 title (border_strips c n m)) ∙ length-laid_over 0 title (border_strips c n m) ∙ length-border ComponentId c n m high in
    let none : (line clear lower (pos y) (pos z)).owner x ≡ None =
    less-line x lower (pos y) (pos z) (less-over x 1 texts (laid_over 0 title (border_strips c n m)) (less-texts x (c + 1) (c + 1) (c + n - 1) (take (m - 2) d.body)) (less-over x 0 title (border_strips c n m) (refl, tt) (less-border x c n m))) in
    let last : low ≡ pos y +ℤ pos (m - 1) = omega (arith, ints, high) in
    let buttons : overlay_owner (button_rects (placed_from_right end low d.buttons)) z x ≡ (line clear (frame_strips w d c n m) (pos y) (pos z)).owner x =
    buttons-owner w z x end low d.buttons
    ∙ sym (line-one (buttons_strip w end d.buttons) low (pos z) x)
    ∙ sym (two_none ((line clear row low (pos z)).owner x))
    ∙ ap₂ first_of_two (ap (λ k. (line clear row k (pos z)).owner x) last) (sym none)
    ∙ ap (λ (s : Strip ComponentId). s.owner x) (line-over (m - 1) row lower (pos y) (pos z) (omega (arith, size, high))) in
    let count : length (frame_strips w d c n m) ≡ m = length-laid_over (m - 1) row lower ∙ size in
    let least : ℤ = least_column (pos c) (placed_from_right end low d.buttons) in
    let column : is_within least (or_zero (pos (c + n) -ℤ least)) x ≡ is_dialog_column d c n x =
    column-is least (c + n) x ∙ ap (λ l. int_le l (pos x) && int_lt (pos x) (pos (c + n))) (least-is (pos c) end low d.buttons) in
    ap₂ first_of_two buttons
    (own-if (is_within (pos y) m z) (is_within least (or_zero (pos (c + n) -ℤ least)) x) (is_dialog_column d c n x) d.id column
    ∙ ap (λ k. cond (is_within (pos y) k z && is_dialog_column d c n x) (Some d.id) None) (sym count))
    ∙ line-owned d.id (is_dialog_column d c n) (frame_strips w d c n m) (pos y) (pos z) x

pub dialog-owner : (w h s z x : ℕ) (d : ShownDialog ComponentId) → 2 ≤ w → 2 ≤ h
    → overlay_owner (dialog_rects (screen w h s) d) z x ≡ (strip_at z (dialog_layer w h s d)).owner x
dialog-owner w h s z x d a b =
    let cx = centred_60 w (widest_line d.body + 2) a (omega arith) in
    let cy = centred_20 h (length d.body + 2) b (omega arith) in
    ap (λ r. overlay_owner (placed_dialog_rects d r) z x) (rect-is w h s d)
    ∙ placed-owner w (s + centred_gap h (length d.body + 2) 20) z x (centred_gap w (widest_line d.body + 2) 60) (centred_size w (widest_line d.body + 2) 60) (centred_size h (length d.body + 2) 20) d cx.some cy.some

pub length-bar : (w s : ℕ) (b : MenuBar) → s + length (menu_strips w b) ≡ s + (1 + open_menu_height (open_menu b))
length-bar w s b =
    let m = open_menu b in
    let inner : List (Strip ComponentId) = over (headers_strip w 0 0 b.menus) (blank_strip 0 w) ∷ open_strips w m in
    let all : length (menu_strips w b) ≡ length inner = length-map inner (owned ids.MenuBar (λ x. true)) in
    let size = length-open w m in
    omega (arith, all, size)

-- ---- all of them

bar-over : (w h s z x : ℕ) (menu : Option ℕ) → x < w → overlay_owner (menu_bar_rects (screen w h s) (menus_with menu)) z x ≡ (strip_at z (menu_layer w s (menus_with menu))).owner x
bar-over w h s z x menu within = bar-owner w h s z x (menus_with menu) within

quit-over : (w h s z x : ℕ) (q : Option QuitDialog) → 2 ≤ w → 2 ≤ h → overlay_owner (quit_dialog_rects (screen w h s) q) z x ≡ owned_by (quit_layers w h s q) z x
unfolding owned_by
quit-over w h s z x None a b = refl
quit-over w h s z x (Some q) a b = dialog-owner w h s z x (quit_dialog q) a b

help-over : (w h s z x : ℕ) (t : Bool) → 2 ≤ w → 2 ≤ h → overlay_owner (help_dialog_rects (screen w h s) t) z x ≡ owned_by (help_layers w h s t) z x
unfolding owned_by
help-over w h s z x true a b = dialog-owner w h s z x help_dialog a b
help-over w h s z x false a b = refl

pub overlays-owner : (w h s z x : ℕ) (menu : Option ℕ) (q : Option QuitDialog) (t : Bool) → x < w → 2 ≤ w → 2 ≤ h
    → overlay_owner (menu_bar_rects (screen w h s) (menus_with menu) ++ (quit_dialog_rects (screen w h s) q ++ help_dialog_rects (screen w h s) t)) z x ≡ owned_by (overlays w h s menu q t) z x
unfolding owned_by
overlays-owner w h s z x menu q t within a b =
    spots-append (menu_bar_rects (screen w h s) (menus_with menu)) (quit_dialog_rects (screen w h s) q ++ help_dialog_rects (screen w h s) t) z x
    ∙ ap₂ first_of_two
    (spots-append (quit_dialog_rects (screen w h s) q) (help_dialog_rects (screen w h s) t) z x ∙ ap₂ first_of_two (help-over w h s z x t a b) (quit-over w h s z x q a b)
    ∙ sym (owned-append (λ i j. false) (λ i. false) (quit_layers w h s q) (help_layers w h s t) z x))
    (bar-over w h s z x menu within)
