-- Buttons, headers and items in their places: those that are left to place, how many they are, and the header of the open menu.
use Rattle.std.proofs.Common.{◌≡◌, ℕ, zero, suc, ◌+◌, ◌-◌, ◌*◌, ◌<◌, ◌≤◌, min, ℤ, pos, ◌+ℤ◌, ◌-ℤ◌, List, [], ◌∷◌, ◌++◌, length, length-append, append_assoc, drop, get_or, refl, sym, ap, ◌∙◌, arith, add-one, drop-cons}
use Rattle.std.specs.Prelude.{Option, Some, None}
use Rattle.std.proofs.lemmas.Int.{ints}
use Rattle.std.proofs.lemmas.List.{drop_all}
use Rattle.scm_cells.specs.Rect.{InRange, RectInRange}
use Rattle.scm_render.specs.Canvas.{Sight}
use Rattle.scm_render.specs.Drawing.{row_rect, blank_picture}
use Rattle.scm_render.specs.Picture.{PictureInRange, nothing, followed_by, part}
use Rattle.scm_render.proofs.PictureLemmas.{PictureInRange-nothing, PictureInRange-followed, PictureInRange-left, PictureInRange-right, PictureInRange-part}
use Rattle.scm_widgets.specs.declared.ids.ComponentId.{ComponentId}
use Rattle.scm_widgets.specs.declared.ids.ComponentId.TheVariants as ids
use Rattle.scm_widgets.specs.declared.button.Button.{Button}
use Rattle.scm_widgets.specs.declared.placed_button.PlacedButton.{PlacedButton}
use Rattle.scm_widgets.specs.Buttons.{button_part, button_width, placed_button, placed_picture, placed_from_right, ArePlacedInRange}
use Rattle.scm_widgets.proofs.PlacedLemmas.{first-rect, others-in, placed-any}
use Rattle.scm_overlay.specs.declared.menu.MenuItem.{MenuItem}
use Rattle.scm_overlay.specs.declared.menu.Menu.{Menu}
use Rattle.scm_overlay.specs.declared.menu_bar.MenuBar.{MenuBar}
use Rattle.scm_overlay.specs.Menus.{header_button, item_button, header_step, open_menu, open_menu_with_column, menus_before, placed_headers, placed_items, placed_open, items_picture, open_picture, menu_picture}
use Rattle.scm_overlay.specs.Counts.{open_calls}
use Rattle.scm_overlay.specs.OverlayRects.{open_menu_height}
use Rattle.scm_overlay.proofs.MenuPartsLemmas.{header-width}

-- ---- lists to which more is added

-- one more, and then those that are left
pub one-more : {A : Type 0} (xs ys left rest whole : List A) (x : A) → ys ≡ xs ++ (x ∷ []) → left ≡ x ∷ rest → xs ++ left ≡ whole → ys ++ rest ≡ whole
one-more xs ys left rest whole x p q h = ap (λ k. k ++ rest) p ∙ append_assoc xs (x ∷ []) rest ∙ ap (λ k. xs ++ k) (sym q) ∙ h

-- one more, and others after it
pub one-then : {A : Type 0} (xs ys zs rest : List A) (x : A) → ys ≡ xs ++ (x ∷ []) → zs ≡ ys ++ rest → zs ≡ xs ++ (x ∷ rest)
one-then xs ys zs rest x p q = q ∙ ap (λ k. k ++ rest) p ∙ append_assoc xs (x ∷ []) rest

-- ---- those that are left

pub right-more : {K : Type 0} (bs : List (Button K)) (i : ℕ) (d : Button K) (end y : ℤ) → i < length bs
    → placed_from_right end y (drop i bs)
    ≡ placed_button (end -ℤ pos (button_width (get_or bs i d))) y (get_or bs i d)
    ∷ placed_from_right ((end -ℤ pos (button_width (get_or bs i d))) -ℤ pos 1) y (drop (i + 1) bs)
unfolding placed_from_right
right-more bs i d end y h = rw (add-one, drop-cons bs i d h) refl

pub right-end : {K : Type 0} (bs : List (Button K)) (i : ℕ) (end y : ℤ) → length bs ≤ i → placed_from_right end y (drop i bs) ≡ []
unfolding placed_from_right
right-end bs i end y h = rw (drop_all i bs h) refl

pub headers-more : (ms : List Menu) (i : ℕ) (d : Menu) (x y : ℤ) → i < length ms
    → placed_headers x y i (drop i ms)
    ≡ placed_button x y (header_button i (get_or ms i d)) ∷ placed_headers (x +ℤ pos (header_step (get_or ms i d))) y (i + 1) (drop (i + 1) ms)
unfolding placed_headers
headers-more ms i d x y h =
    let more : drop i ms ≡ get_or ms i d ∷ drop (i + 1) ms = rw add-one (drop-cons ms i d h) in
    let number : i + 1 ≡ suc i = omega arith in
    rw (more, number) refl

pub header-next : (x : ℤ) (k : ℕ) (m : Menu) → (x +ℤ pos (button_width (header_button k m))) +ℤ pos 1 ≡ x +ℤ pos (header_step m)
header-next x k m = rw (header-width k m) (omega (arith, ints))

pub headers-end : (ms : List Menu) (i : ℕ) (x y : ℤ) → length ms ≤ i → placed_headers x y i (drop i ms) ≡ []
unfolding placed_headers
headers-end ms i x y h = rw (drop_all i ms h) refl

pub items-more : (ts : List MenuItem) (i : ℕ) (d : MenuItem) (x y : ℤ) → i < length ts
    → placed_items x y i (drop i ts) ≡ placed_button x y (item_button i (get_or ts i d)) ∷ placed_items x (y +ℤ pos 1) (i + 1) (drop (i + 1) ts)
unfolding placed_items
items-more ts i d x y h = rw (add-one, drop-cons ts i d h) refl

pub items-end : (ts : List MenuItem) (i : ℕ) (x y : ℤ) → length ts ≤ i → placed_items x y i (drop i ts) ≡ []
unfolding placed_items
items-end ts i x y h = rw (drop_all i ts h) refl

-- ---- how many they are

pub length-right : {K : Type 0} (end y : ℤ) (bs : List (Button K)) → length (placed_from_right end y bs) ≡ length bs
unfolding placed_from_right
length-right end y [] = refl
length-right end y (b ∷ bs) = ap suc (length-right ((end -ℤ pos (button_width b)) -ℤ pos 1) y bs)

pub length-headers : (x y : ℤ) (k : ℕ) (ms : List Menu) → length (placed_headers x y k ms) ≡ length ms
unfolding placed_headers
length-headers x y k [] = refl
length-headers x y k (m ∷ ms) = ap suc (length-headers (x +ℤ pos (header_step m)) y (suc k) ms)

pub length-items : (x y : ℤ) (k : ℕ) (ts : List MenuItem) → length (placed_items x y k ts) ≡ length ts
unfolding placed_items
length-items x y k [] = refl
length-items x y k (t ∷ ts) = ap suc (length-items x (y +ℤ pos 1) (suc k) ts)

pub length-opened : (x y : ℤ) (m : Option (ℕ × Menu)) → length (placed_open x y m) ≡ open_menu_height m
length-opened x y None = refl
length-opened x y (Some m) = length-items (x +ℤ pos m.0) (y +ℤ pos 1) 0 m.1.items

-- the rows of the open menu are its items
pub items-left : (b : MenuBar) (x y : ℤ) (placed : List (PlacedButton ComponentId)) → placed ≡ placed_headers x y 0 b.menus ++ placed_open x y (open_menu b)
    → length placed - length b.menus ≡ open_menu_height (open_menu b)
items-left b x y placed e =
    let heads = placed_headers x y 0 b.menus in
    let all = ap length e ∙ length-append heads (placed_open x y (open_menu b)) in
    omega (arith, all, length-headers x y 0 b.menus, length-opened x y (open_menu b))

-- ---- items on their blanks

pub blank-rect : {K : Type 0} (s : Sight) (x y : ℤ) (n : ℕ) → PictureInRange {K = K} (blank_picture s (row_rect x y n)) → RectInRange (row_rect x y n)
unfolding blank_picture
blank-rect s x y n r = r.areas.0

pub items_picture-more : (n : ℕ) (ps : List (PlacedButton ComponentId)) (i : ℕ) (d : PlacedButton ComponentId) (s : Sight) → i < length ps
    → let p = get_or ps i d in
    items_picture n s (drop i ps)
    ≡ followed_by (followed_by (blank_picture s (row_rect p.rect.x p.rect.y n)) (button_part p.button s p.rect.x p.rect.y)) (items_picture n s (drop (i + 1) ps))
unfolding items_picture
items_picture-more n ps i d s h = rw (add-one, drop-cons ps i d h) refl

pub items_picture-end : (n : ℕ) (ps : List (PlacedButton ComponentId)) (i : ℕ) (s : Sight) → length ps ≤ i → items_picture n s (drop i ps) ≡ nothing
unfolding items_picture
items_picture-end n ps i s h = rw (drop_all i ps h) refl

items-placed : (n : ℕ) (s : Sight) (ps : List (PlacedButton ComponentId)) → PictureInRange (items_picture n s ps) → PictureInRange (placed_picture s ps)
unfolding items_picture placed_picture
items-placed n s [] r = PictureInRange-nothing
items-placed n s (p ∷ ps) r = PictureInRange-followed _ _ (PictureInRange-right _ _ (PictureInRange-left _ _ r)) (items-placed n s ps (PictureInRange-right _ _ r))

pub menu-placed : (ts : List MenuItem) (s : Sight) (x y : ℤ) → PictureInRange (menu_picture ts s x y) → ArePlacedInRange (placed_items x y 0 ts)
unfolding menu_picture
menu-placed ts s x y r = placed-any s _ (items-placed _ s _ r)

none-placed : (s : Sight) → PictureInRange (placed_picture {K = ComponentId} s [])
unfolding placed_picture
none-placed s = PictureInRange-nothing

pub open-placed : (m : Option (ℕ × Menu)) (s : Sight) (x y : ℤ) → PictureInRange (open_picture m s x y) → ArePlacedInRange (placed_open x y m)
open-placed None s x y r = placed-any s [] (none-placed s)
open-placed (Some m) s x y r = menu-placed m.1.items s (x +ℤ pos m.0) (y +ℤ pos 1) (PictureInRange-part _ _ r)

-- ---- the header of the open menu

-- the row below headers is in range
pub header-below : (k : ℕ) (ms : List Menu) (s : Sight) (x y : ℤ) → 0 < length ms → PictureInRange (placed_picture s (placed_headers x y k ms)) → InRange (y +ℤ pos 1)
unfolding placed_headers
header-below k [] s x y h r = absurd (omega (arith, h))
header-below k (m ∷ ms) s x y h r = (first-rect (header_button k m) x y s _ r).end_y

-- each header's column is in range
pub header-column : (ms : List Menu) (i k : ℕ) (s : Sight) (x y : ℤ) (p : PlacedButton ComponentId) → i < length ms → PictureInRange (placed_picture s (placed_headers x y k ms))
    → InRange (get_or (placed_headers x y k ms) i p).rect.x
unfolding placed_headers
header-column [] i k s x y p h r = absurd (omega (arith, h))
header-column (m ∷ ms) zero k s x y p h r = (first-rect (header_button k m) x y s _ r).x
header-column (m ∷ ms) (suc i) k s x y p h r = header-column ms i (suc k) s (x +ℤ pos (header_step m)) y p (omega (arith, h)) (others-in _ s _ r)

-- the open menu, and the column of its header
pub opened-at : (ms : List Menu) (e : Option ℕ) (c k : ℕ) (x y : ℤ) (d : Menu) (p : PlacedButton ComponentId) → menus_before e (length ms) < length ms
    → (col : ℕ) × (open_menu_with_column c ms e ≡ Some (col, get_or ms (menus_before e (length ms)) d))
    × ((get_or (placed_headers (x +ℤ pos c) y k ms) (menus_before e (length ms)) p).rect.x ≡ x +ℤ pos col)
unfolding open_menu_with_column placed_headers
opened-at ms None c k x y d p h = absurd (omega (arith, h))
opened-at [] (Some n) c k x y d p h = absurd (omega (arith, h))
opened-at (m ∷ ms) (Some zero) c k x y d p h =
    let none : min 0 (length (m ∷ ms)) ≡ 0 = omega arith in
    rw none (c, refl, refl)
opened-at (m ∷ ms) (Some (suc n)) c k x y d p h =
    let one : min (suc n) (length (m ∷ ms)) ≡ suc (min n (length ms)) = omega arith in
    let column : (x +ℤ pos c) +ℤ pos (header_step m) ≡ x +ℤ pos (c + header_step m) = omega (arith, ints) in
    rw (one, column) (opened-at ms (Some n) (c + header_step m) (suc k) x y d p (omega (arith, h)))

pub not-opened : (ms : List Menu) (e : Option ℕ) (c : ℕ) → length ms ≤ menus_before e (length ms) → open_menu_with_column c ms e ≡ None
unfolding open_menu_with_column
not-opened ms None c h = refl
not-opened [] (Some n) c h = refl
not-opened (m ∷ ms) (Some zero) c h = absurd (omega (arith, h))
not-opened (m ∷ ms) (Some (suc n)) c h = not-opened ms (Some n) (c + header_step m) (omega (arith, h))

-- the items of the open menu, and what it draws, below its header
pub opened-items : (b : MenuBar) (x y : ℤ) (d : Menu) (p : PlacedButton ComponentId) → menus_before b.expanded_menu_idx (length b.menus) < length b.menus
    → let i = menus_before b.expanded_menu_idx (length b.menus) in
    placed_open x y (open_menu b) ≡ placed_items (get_or (placed_headers x y 0 b.menus) i p).rect.x (y +ℤ pos 1) 0 (get_or b.menus i d).items
opened-items b x y d p h =
    let here : x +ℤ pos 0 ≡ x = omega (arith, ints) in
    let opened = rw here at (opened-at b.menus b.expanded_menu_idx 0 0 x y d p h) in
    rw (opened.1, opened.2) refl

pub opened-picture : (b : MenuBar) (s : Sight) (x y : ℤ) (d : Menu) (p : PlacedButton ComponentId) → menus_before b.expanded_menu_idx (length b.menus) < length b.menus
    → let i = menus_before b.expanded_menu_idx (length b.menus) in
    open_picture (open_menu b) s x y ≡ part ids.MenuHeader (menu_picture (get_or b.menus i d).items s (get_or (placed_headers x y 0 b.menus) i p).rect.x (y +ℤ pos 1))
opened-picture b s x y d p h =
    let here : x +ℤ pos 0 ≡ x = omega (arith, ints) in
    let opened = rw here at (opened-at b.menus b.expanded_menu_idx 0 0 x y d p h) in
    rw (opened.1, opened.2) refl

pub opened-calls : (b : MenuBar) (d : Menu) → menus_before b.expanded_menu_idx (length b.menus) < length b.menus
    → open_calls (open_menu b) ≡ 2 * length (get_or b.menus (menus_before b.expanded_menu_idx (length b.menus)) d).items
opened-calls b d h = ap open_calls (opened-at b.menus b.expanded_menu_idx 0 0 (pos 0) (pos 0) d no_button h).1
  where
    no_button : PlacedButton ComponentId
    no_button = placed_button (pos 0) (pos 0) (header_button 0 d)
