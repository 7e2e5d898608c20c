-- What the menu bar and its open menu draw, and where their box lies.
use Rattle.std.proofs.Common.{◌≡◌, ℕ, suc, ◌+◌, ◌-◌, ◌<◌, ◌≤◌, min, Bool, true, false, cond, List, [], ◌∷◌, length, refl, sym, ap, ◌∙◌, arith, ◌⊎◌, inl, inr, ⊎_elim, replicate}
use Rattle.std.specs.Prelude.{ℤ, pos, ◌+ℤ◌, ◌-ℤ◌, int_le, int_lt, Option, Some, None}
use Rattle.std.specs.Ordering.{int_eq}
use Rattle.std.specs.Int.{int_min, int_max}
use Rattle.std.proofs.lemmas.Int.{ints}
use Rattle.std.proofs.lemmas.Bool.{cases_lt}
use Rattle.std.proofs.lemmas.List.{length-map}
use Rattle.scm_cells.specs.Rect.{end_x_of, or_zero, rect_between, intersect_of}
use Rattle.scm_cells.specs.declared.rect.Rect.{Rect}
use Rattle.scm_cells.proofs.RectLemmas.{places}
use Rattle.scm_render.specs.Picture.{nothing, followed_by, part, box_rect}
use Rattle.scm_render.specs.Around.{join, around, no_rect}
use Rattle.scm_render.specs.Canvas.{Row, Sight, clamp_column}
use Rattle.scm_render.specs.Drawing.{row_rect, blank_picture}
use Rattle.scm_render.specs.Hits.{IsLawful}
use Rattle.scm_render.specs.Lines.{line}
use Rattle.scm_render.proofs.AroundLemmas.{around-one, join-assoc}
use Rattle.scm_render.proofs.FillLemmas.{one_blank, put_over}
use Rattle.scm_render.proofs.RowLemmas.{one_same}
use Rattle.scm_render.proofs.HitLemmas.{not_true}
use Rattle.scm_render.proofs.SpanLemmas.{Spans, IsIn, in_more, spans_in, spans_row, spans_more, spans_over}
use Rattle.scm_widgets.specs.declared.ids.ComponentId.{ComponentId}
use Rattle.scm_widgets.specs.declared.ids.ComponentId.TheVariants as ids
use Rattle.scm_overlay.specs.declared.menu.MenuItem.{MenuItem}
use Rattle.scm_overlay.specs.declared.menu.Menu.{Menu}
use Rattle.scm_overlay.specs.declared.menu_bar.MenuBar.{MenuBar}
use Rattle.scm_widgets.specs.Clicks.{is_clickable}
use Rattle.scm_overlay.proofs.Parts.{Part, Menus, part_of}
use Rattle.scm_widgets.specs.Layers.{Strip, clear, over, owned}
use Rattle.scm_widgets.specs.Blanks.{blanked, blank_strip}
use Rattle.scm_widgets.specs.Buttons.{button_part, button_strip, button_width, placed_picture}
use Rattle.scm_overlay.specs.Menus.{header_button, header_step, item_button, widest_item, open_menu_with_column, placed_headers, placed_items, items_picture, menu_picture, open_picture, menu_bar_picture, headers_strip, items_strips, open_strips, menu_strips}
use Rattle.scm_overlay.proofs.OpenMenus.{HasColumns, IsOpenWide}
use Rattle.scm_widgets.specs.Screens.{screen, sight}
use Rattle.scm_cells.proofs.PutLemmas.{put-empty}
use Rattle.scm_widgets.proofs.DrawsStrips.{DrawsStrips, Apart, HasBox, over-clear, draws_nothing, draws_clear, draws_both, draws_below, draws_part, draws_still, box-followed, box-part}
use Rattle.scm_widgets.proofs.ButtonLemmas.{reach-screen, draws_row, draws_button, IsId, box-plain_button}
use Rattle.scm_widgets.proofs.MenuLemmas.{not-empty, in-nothing, in-row}

-- ---- blanks

abbrev BlankAs : ℕ → ℕ → ℕ → ℕ → ℕ → ℤ → Row → Type 0
BlankAs w h s c n y row =
    put_over (screen w h s) (intersect_of (row_rect (pos c) y n) (screen w h s)) (replicate (intersect_of (row_rect (pos c) y n) (screen w h s)).width 32) row
    ≡ blanked c (min w (c + n)) row

left_of : (c : ℕ) → int_max (pos c) (pos 0) ≡ pos c
left_of c = omega (arith, places)

size_of : (w c n : ℕ) → or_zero (int_min (pos c +ℤ pos n) (pos 0 +ℤ pos w) -ℤ pos c) ≡ min w (c + n) - c
size_of w c n = omega (arith, places)

blank_outside : (w h s c n : ℕ) (y : ℤ) (row : Row) → w < c → BlankAs w h s c n y row
unfolding rect_between
blank_outside w h s c n y row p =
    let none : min w (c + n) - c ≡ 0 = omega arith in
    rw (left_of c, size_of w c n, none) (put-empty row _ _ _ ∙ sym (put-empty row (pos c) c (min w (c + n))))

blank_inside : (w h s c n : ℕ) (y : ℤ) (row : Row) → c ≤ w → BlankAs w h s c n y row
unfolding rect_between
blank_inside w h s c n y row p =
    let at : pos c -ℤ pos 0 ≡ pos c = omega (arith, places) in
    let low : clamp_column w (pos c -ℤ pos 0) ≡ c = omega (arith, places) in
    let high : clamp_column w ((pos c +ℤ pos (min w (c + n) - c)) -ℤ pos 0) ≡ min w (c + n) = omega (arith, places) in
    rw (left_of c, size_of w c n, low, high, at) refl

blank_within : (w h s c n : ℕ) (y : ℤ) (row : Row) → BlankAs w h s c n y row
blank_within w h s c n y row = ⊎_elim (blank_outside w h s c n y row) (blank_inside w h s c n y row) (cases_lt w c)

no_boxes : (K : Type 0) (s : Sight) (r : Rect) → (blank_picture {K = K} s r).boxes ≡ []
unfolding blank_picture
no_boxes K s r = refl

module _ {K : Type 0} where
  pub blank_draws : (same_id : K → K → Bool) (clicks : K → Bool) (w h s c n : ℕ) (y : ℤ) (P : K → Type 0)
      → DrawsStrips same_id clicks (screen w h s) P (blank_picture (sight w h s) (row_rect (pos c) y n)) y (record { shows = blanked c (min w (c + n)); owner = λ x. None } ∷ [])
  blank_draws same_id clicks w h s c n y P =
      let one = rw (reach-screen w h s) at (one_blank K (screen w h s) (screen w h s) (sight w h s) (pos c) y n (rw (reach-screen w h s) (λ p. p))) in
      draws_row same_id clicks (screen w h s) P (blank_picture (sight w h s) (row_rect (pos c) y n)) y (blanked c (min w (c + n))) (no_boxes K (sight w h s) (row_rect (pos c) y n))
      (one_same (screen w h s) (screen w h s) y _ _ _ (blank_within w h s c n y) one)

  -- two strips of one row
  pub line-beside : (a b : Strip K) (ks : List (Strip K)) (y z : ℤ) → over (line clear (a ∷ ks) y z) (line clear (b ∷ []) y z) ≡ line clear (over a b ∷ ks) y z
  unfolding line
  line-beside a b ks y z = go (int_eq z y)
    where
      go : (t : Bool) → over (cond t a (line clear ks (y +ℤ pos 1) z)) (cond t b clear) ≡ cond t (over a b) (line clear ks (y +ℤ pos 1) z)
      go true = refl
      go false = over-clear (line clear ks (y +ℤ pos 1) z)

abbrev pub IsHead : ℕ → ComponentId → Type 0
IsHead k i = (n : ℕ) × (i ≡ ids.Menu n) × (k ≤ n)

abbrev pub IsItem : ℕ → ComponentId → Type 0
IsItem k i = (n : ℕ) × (i ≡ ids.MenuItem n) × (k ≤ n)

abbrev pub IsPart : Part → ComponentId → Type 0
IsPart p i = part_of i ≡ p

module _ (same_id : ComponentId → ComponentId → Bool) (law : IsLawful same_id) where
  pub differ : (i j : ComponentId) → (i ≡ j → ⊥) → same_id i j ≡ false
  differ i j d = not_true (same_id i j) (λ e. d (law.same i j e))

  head_before : (k : ℕ) → Apart same_id is_clickable (IsId (ids.Menu k)) (IsHead (suc k))
  head_before k i j p q = differ i j (λ e. let same : ids.Menu k ≡ ids.Menu q.0 = cc (p, q.1, e) in let n : k ≡ q.0 = cc same in absurd (omega (arith, n, q.2)))

  item_before : (k : ℕ) → Apart same_id is_clickable (IsId (ids.MenuItem k)) (IsItem (suc k))
  item_before k i j p q = differ i j (λ e. let same : ids.MenuItem k ≡ ids.MenuItem q.0 = cc (p, q.1, e) in let n : k ≡ q.0 = cc same in absurd (omega (arith, n, q.2)))

  pub headers_draw : (w h s c k : ℕ) (y : ℤ) (ms : List Menu) → DrawsStrips same_id is_clickable (screen w h s) (IsHead k) (placed_picture (sight w h s) (placed_headers (pos c) y k ms)) y (headers_strip w c k ms ∷ [])
  unfolding placed_picture placed_headers headers_strip
  headers_draw w h s c k y [] = draws_clear same_id is_clickable (screen w h s) (IsHead k) y
  headers_draw w h s c k y (m ∷ ms) =
      draws_both same_id is_clickable (screen w h s) (IsId (ids.Menu k)) (IsHead (suc k)) (IsHead k) _ _ y y _ _ _
      (draws_button same_id is_clickable w h s (header_button k m) (pos c) y refl)
      (headers_draw w h s (c + header_step m) (suc k) y ms)
      (head_before k) (λ i e. (k, e, omega arith)) (λ i p. (p.0, p.1, omega (arith, p.2)))
      (λ z. line-beside (headers_strip w (c + header_step m) (suc k) ms) (button_strip w (pos c) (header_button k m)) [] y z)

  pub items_draw : (w h s n c k : ℕ) (y : ℤ) (ts : List MenuItem) → DrawsStrips same_id is_clickable (screen w h s) (IsItem k) (items_picture n (sight w h s) (placed_items (pos c) y k ts)) y (items_strips w n c k ts)
  unfolding items_picture placed_items items_strips
  items_draw w h s n c k y [] = draws_nothing same_id is_clickable (screen w h s) (IsItem k) y
  items_draw w h s n c k y (t ∷ ts) =
      draws_below same_id is_clickable (screen w h s) (IsId (ids.MenuItem k)) (IsItem (suc k)) (IsItem k) _ _ y (over (button_strip w (pos c) (item_button k t)) (blank_strip c (min w (c + n))) ∷ []) (items_strips w n c (suc k) ts)
      (draws_both same_id is_clickable (screen w h s) (λ i. ⊥) (IsId (ids.MenuItem k)) (IsId (ids.MenuItem k)) _ _ y y _ _ _
      (blank_draws same_id is_clickable w h s c n y (λ i. ⊥))
      (draws_button same_id is_clickable w h s (item_button k t) (pos c) y refl)
      (λ i j p q. absurd p) (λ i p. absurd p) (λ i p. p)
      (λ z. line-beside (button_strip w (pos c) (item_button k t)) (blank_strip c (min w (c + n))) [] y z))
      (items_draw w h s n c (suc k) (y +ℤ pos 1) ts)
      (item_before k) (λ i e. (k, e, omega arith)) (λ i p. (p.0, p.1, omega (arith, p.2)))

-- ---- where the menu bar's box lies

box-blank : (K : Type 0) (s : Sight) (r : Rect) → box_rect (blank_picture {K = K} s r) ≡ join no_rect r
unfolding box_rect blank_picture
box-blank K s r = around-one no_rect r

box-nothing : (K : Type 0) → box_rect (nothing {K = K}) ≡ no_rect
unfolding box_rect nothing around
box-nothing K = refl

headers_in : (w h s c k : ℕ) (y : ℤ) (ms : List Menu) → IsIn (box_rect (placed_picture (sight w h s) (placed_headers (pos c) y k ms))) y 1 (pos 0)
unfolding placed_picture placed_headers
headers_in w h s c k y [] = rw (box-nothing ComponentId) (in-nothing y 1 (pos 0))
headers_in w h s c k y (m ∷ ms) =
    rw (box-followed (button_part (header_button k m) (sight w h s) (pos c) y) (placed_picture (sight w h s) (placed_headers (pos (c + header_step m)) y (suc k) ms)), box-plain_button (header_button k m) (sight w h s) (pos c) y)
    (in_more _ _ y 1 (pos 0) (in-row (pos c) y (pos 0) (button_width (header_button k m)) (omega (arith, ints))) (headers_in w h s (c + header_step m) (suc k) y ms))

item_span : (w h s n c k : ℕ) (y : ℤ) (t : MenuItem) → 0 < n
    → Spans (box_rect (followed_by (blank_picture (sight w h s) (row_rect (pos c) y n)) (button_part (item_button k t) (sight w h s) (pos c) y))) y 1 (pos c) (c + n)
item_span w h s n c k y t some =
    rw (box-followed (blank_picture (sight w h s) (row_rect (pos c) y n)) (button_part (item_button k t) (sight w h s) (pos c) y), box-blank ComponentId (sight w h s) (row_rect (pos c) y n), box-plain_button (item_button k t) (sight w h s) (pos c) y, not-empty (pos c) y n some)
    (spans_in _ _ y 1 (pos c) (c + n) (omega arith) (omega (arith, ints)) (spans_row (pos c) y n (c + n) (omega (arith, ints))) (in-row (pos c) y (pos c) (button_width (item_button k t)) (omega (arith, ints))))

spans_as : (r : Rect) (y : ℤ) (n m : ℕ) (l k : ℤ) (w : ℕ) → n ≡ m → l ≡ k → Spans r y n l w → Spans r y m k w
spans_as r y n m l k w e f h = rw (e, f) at h

items_span : (w h s n c k : ℕ) (y : ℤ) (t : MenuItem) (ts : List MenuItem) → 0 < n
    → Spans (box_rect (items_picture n (sight w h s) (placed_items (pos c) y k (t ∷ ts)))) y (suc (length ts)) (pos c) (c + n)
unfolding items_picture placed_items
items_span w h s n c k y t [] some =
    rw (box-followed (followed_by (blank_picture (sight w h s) (row_rect (pos c) y n)) (button_part (item_button k t) (sight w h s) (pos c) y)) nothing, box-nothing ComponentId)
    (spans_in _ _ y 1 (pos c) (c + n) (omega arith) (omega (arith, ints)) (item_span w h s n c k y t some) (in-nothing y 1 (pos c)))
items_span w h s n c k y t (u ∷ us) some =
    rw (box-followed (followed_by (blank_picture (sight w h s) (row_rect (pos c) y n)) (button_part (item_button k t) (sight w h s) (pos c) y)) (items_picture n (sight w h s) (placed_items (pos c) (y +ℤ pos 1) (suc k) (u ∷ us))))
    (spans_as _ y (1 + suc (length us)) (suc (suc (length us))) (int_min (pos c) (pos c)) (pos c) (c + n) (omega arith) (omega (arith, places))
    (spans_more _ _ y 1 (suc (length us)) (pos c) (pos c) (c + n) (omega arith) (omega arith) (omega (arith, ints)) (omega (arith, ints)) (item_span w h s n c k y t some) (items_span w h s n c (suc k) (y +ℤ pos 1) u us some)))

pub length-items : (w n c k : ℕ) (ts : List MenuItem) → length (items_strips w n c k ts) ≡ length ts
unfolding items_strips
length-items w n c k [] = refl
length-items w n c k (t ∷ ts) = ap suc (length-items w n c (suc k) ts)

first_row : (w h s : ℕ) (ms : List Menu) → 0 < w
    → Spans (box_rect (followed_by (blank_picture (sight w h s) (row_rect (pos 0) (pos s) w)) (placed_picture (sight w h s) (placed_headers (pos 0) (pos s) 0 ms)))) (pos s) 1 (pos 0) w
first_row w h s ms some =
    rw (box-followed (blank_picture (sight w h s) (row_rect (pos 0) (pos s) w)) (placed_picture (sight w h s) (placed_headers (pos 0) (pos s) 0 ms)), box-blank ComponentId (sight w h s) (row_rect (pos 0) (pos s) w), not-empty (pos 0) (pos s) w some)
    (spans_in _ _ (pos s) 1 (pos 0) w (omega arith) (omega (arith, ints)) (spans_row (pos 0) (pos s) w w (omega (arith, ints))) (headers_in w h s 0 0 (pos s) ms))

menu_span : (w h s c : ℕ) (y : ℤ) (t : MenuItem) (ts : List MenuItem) → 0 < widest_item (t ∷ ts)
    → Spans (box_rect (menu_picture (t ∷ ts) (sight w h s) (pos c) y)) y (suc (length ts)) (pos c) (c + widest_item (t ∷ ts))
unfolding menu_picture
menu_span w h s c y t ts some = items_span w h s (widest_item (t ∷ ts)) c 0 y t ts some

box-no_items : (s : Sight) (x y : ℤ) → box_rect (menu_picture [] s x y) ≡ no_rect
unfolding menu_picture items_picture placed_items
box-no_items s x y = box-nothing ComponentId

open_rows : (w h s c : ℕ) (r : Rect) (ts : List MenuItem) → 0 < w → HasColumns ts → Spans r (pos s) 1 (pos 0) w
    → Spans (join r (box_rect (menu_picture ts (sight w h s) (pos c) (pos s +ℤ pos 1)))) (pos s) (suc (length ts)) (pos 0) w
open_rows w h s c r [] some wide h1 = rw (box-no_items (sight w h s) (pos c) (pos s +ℤ pos 1)) (spans_in _ _ (pos s) 1 (pos 0) w (omega arith) (omega (arith, ints)) h1 (in-nothing (pos s) 1 (pos 0)))
open_rows w h s c r (t ∷ ts) some wide h1 =
    spans_as _ (pos s) (1 + suc (length ts)) (suc (suc (length ts))) (int_min (pos 0) (pos c)) (pos 0) w (omega arith) (omega (arith, places))
    (spans_over _ _ (pos s) 1 (suc (length ts)) (pos 0) (pos c) w (c + widest_item (t ∷ ts)) (omega arith) (omega arith) (omega (arith, ints)) (omega (arith, ints)) h1 (menu_span w h s c (pos s +ℤ pos 1) t ts wide))

-- the first row, and the rows of the open menu
open_span : (w h s : ℕ) (r : Rect) (ms : Option (ℕ × Menu)) → 0 < w → IsOpenWide ms → Spans r (pos s) 1 (pos 0) w
    → Spans (join r (box_rect (open_picture ms (sight w h s) (pos 0) (pos s)))) (pos s) (suc (length (open_strips w ms))) (pos 0) w
open_span w h s r None some wide h1 = rw (box-nothing ComponentId) (spans_in _ _ (pos s) 1 (pos 0) w (omega arith) (omega (arith, ints)) h1 (in-nothing (pos s) 1 (pos 0)))
open_span w h s r (Some m) some wide h1 =
    rw (box-part ids.MenuHeader (menu_picture m.1.items (sight w h s) (pos (0 + m.0)) (pos s +ℤ pos 1)), length-items w (widest_item m.1.items) m.0 0 m.1.items)
    (open_rows w h s (0 + m.0) r m.1.items some wide h1)

pub bar_spans : (w h s : ℕ) (b : MenuBar) → 0 < w → IsOpenWide (open_menu_with_column 0 b.menus b.expanded_menu_idx)
    → Spans (box_rect (menu_bar_picture b (sight w h s) (pos 0) (pos s))) (pos s) (length (menu_strips w b)) (pos 0) w
unfolding menu_bar_picture
bar_spans w h s b some wide =
    let blank = blank_picture {K = ComponentId} (sight w h s) (row_rect (pos 0) (pos s) w) in
    let heads = placed_picture (sight w h s) (placed_headers (pos 0) (pos s) 0 b.menus) in
    let menu = open_picture (open_menu_with_column 0 b.menus b.expanded_menu_idx) (sight w h s) (pos 0) (pos s) in
    let first = rw (box-followed blank heads) at (first_row w h s b.menus some) in
    let all : box_rect (followed_by blank (followed_by heads menu)) ≡ join (join (box_rect blank) (box_rect heads)) (box_rect menu) =
    box-followed blank (followed_by heads menu) ∙ ap (join (box_rect blank)) (box-followed heads menu) ∙ sym (join-assoc (box_rect blank) (box_rect heads) (box_rect menu)) in
    let count : length (menu_strips w b) ≡ suc (length (open_strips w (open_menu_with_column 0 b.menus b.expanded_menu_idx))) = ap suc (length-map (open_strips w (open_menu_with_column 0 b.menus b.expanded_menu_idx)) (owned ids.MenuBar (λ x. true))) in
    rw (all, count) (open_span w h s _ (open_menu_with_column 0 b.menus b.expanded_menu_idx) some wide first)

-- ---- the menu bar as a part of the screen

pub has_box : (r : Rect) (y : ℤ) (n w : ℕ) → Spans r y n (pos 0) w → HasBox r y n w (λ x. true)
has_box r y n w h = record {
  top = h.top;
  rows = h.rows;
  columns = λ x within.
      let a : int_le (pos 0) (pos x) ≡ true = grind (arith, ints) in
      let b : int_lt (pos x) (end_x_of r) ≡ true = grind (arith, ints, h.right) in
      rw (b, h.left, a) refl;
}

-- an item, or the open menu itself
abbrev IsOpen : ComponentId → Type 0
IsOpen i = (i ≡ ids.MenuHeader) ⊎ IsItem 0 i

-- all of the menu bar but itself
abbrev IsInBar : ComponentId → Type 0
IsInBar i = IsHead 0 i ⊎ IsOpen i

in_menus : (i : ComponentId) → IsInBar i → IsPart Menus i
in_menus i (inl p) = ap part_of p.1
in_menus i (inr (inl p)) = ap part_of p
in_menus i (inr (inr p)) = ap part_of p.1

module _ (same_id : ComponentId → ComponentId → Bool) (law : IsLawful same_id) where
  menu_draws : (w h s c : ℕ) (y : ℤ) (ts : List MenuItem) → DrawsStrips same_id is_clickable (screen w h s) (IsItem 0) (menu_picture ts (sight w h s) (pos c) y) y (items_strips w (widest_item ts) c 0 ts)
  unfolding menu_picture
  menu_draws w h s c y ts = items_draw same_id law w h s (widest_item ts) c 0 y ts

  open_draws : (w h s : ℕ) (ms : Option (ℕ × Menu)) → DrawsStrips same_id is_clickable (screen w h s) IsOpen (open_picture ms (sight w h s) (pos 0) (pos s)) (pos s +ℤ pos 1) (open_strips w ms)
  open_draws w h s None = draws_nothing same_id is_clickable (screen w h s) IsOpen (pos s +ℤ pos 1)
  open_draws w h s (Some m) =
      let column : 0 + m.0 ≡ m.0 = omega arith in
      draws_still same_id is_clickable (screen w h s) (IsItem 0) IsOpen ids.MenuHeader _ (pos s +ℤ pos 1) _ (rw column (menu_draws w h s m.0 (pos s +ℤ pos 1) m.1.items)) refl (inl refl) (λ i p. inr p)

  head_or_open : Apart same_id is_clickable (IsHead 0) IsOpen
  head_or_open i j p (inl q) = differ same_id law i j (λ e. cc (p.1, q, e))
  head_or_open i j p (inr q) = differ same_id law i j (λ e. cc (p.1, q.1, e))

  bar_itself : (j : ComponentId) → IsInBar j → same_id ids.MenuBar j ≡ false
  bar_itself j (inl p) = differ same_id law ids.MenuBar j (λ e. cc (p.1, e))
  bar_itself j (inr (inl p)) = differ same_id law ids.MenuBar j (λ e. cc (p, e))
  bar_itself j (inr (inr p)) = differ same_id law ids.MenuBar j (λ e. cc (p.1, e))

  bar_rows : (w h s : ℕ) (b : MenuBar)
      → DrawsStrips same_id is_clickable (screen w h s) IsInBar (menu_bar_picture b (sight w h s) (pos 0) (pos s)) (pos s) (over (headers_strip w 0 0 b.menus) (blank_strip 0 w) ∷ open_strips w (open_menu_with_column 0 b.menus b.expanded_menu_idx))
  unfolding menu_bar_picture
  bar_rows w h s b =
      let all : min w (0 + w) ≡ w = omega arith in
      draws_both same_id is_clickable (screen w h s) (λ i. ⊥) IsInBar IsInBar _ _ (pos s) (pos s) (blank_strip 0 w ∷ []) (headers_strip w 0 0 b.menus ∷ open_strips w (open_menu_with_column 0 b.menus b.expanded_menu_idx)) _
      (rw all at (blank_draws same_id is_clickable w h s 0 w (pos s) (λ i. ⊥)))
      (draws_below same_id is_clickable (screen w h s) (IsHead 0) IsOpen IsInBar _ _ (pos s) (headers_strip w 0 0 b.menus ∷ []) (open_strips w (open_menu_with_column 0 b.menus b.expanded_menu_idx))
      (headers_draw same_id law w h s 0 0 (pos s) b.menus) (open_draws w h s (open_menu_with_column 0 b.menus b.expanded_menu_idx)) head_or_open (λ i p. inl p) (λ i p. inr p))
      (λ i j p q. absurd p) (λ i p. absurd p) (λ i p. p)
      (λ z. line-beside (headers_strip w 0 0 b.menus) (blank_strip 0 w) (open_strips w (open_menu_with_column 0 b.menus b.expanded_menu_idx)) (pos s) z)

  pub menus_draw : (w h s : ℕ) (b : MenuBar) → 0 < w → IsOpenWide (open_menu_with_column 0 b.menus b.expanded_menu_idx)
      → DrawsStrips same_id is_clickable (screen w h s) (IsPart Menus) (part ids.MenuBar (menu_bar_picture b (sight w h s) (pos 0) (pos s))) (pos s) (menu_strips w b)
  menus_draw w h s b some wide =
      let inner = over (headers_strip w 0 0 b.menus) (blank_strip 0 w) ∷ open_strips w (open_menu_with_column 0 b.menus b.expanded_menu_idx) in
      let count : length (menu_strips w b) ≡ length inner = length-map inner (owned ids.MenuBar (λ x. true)) in
      draws_part same_id is_clickable (screen w h s) IsInBar (IsPart Menus) ids.MenuBar _ (pos s) inner (λ x. true) (bar_rows w h s b)
      (has_box _ (pos s) (length inner) w (rw count at (bar_spans w h s b some wide))) refl bar_itself refl in_menus
