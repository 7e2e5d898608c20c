-- Sights of an area of the screen, and what masks of one row or of one file leave of them.
use Rattle.std.proofs.Common.{◌≡◌, ℕ, ◌+◌, ◌-◌, ◌<◌, ◌≤◌, true, refl, ◌∙◌, arith}
use Rattle.std.specs.Prelude.{ℤ, pos, ◌+ℤ◌, ◌-ℤ◌, ◌≤ℤ◌, ◌<ℤ◌, int_le, int_lt, Option, Some, None}
use Rattle.std.specs.Int.{int_min, int_max}
use Rattle.std.proofs.lemmas.Int.{ints}
use Rattle.scm_cells.specs.Rect.{end_x_of, end_y_of, or_zero, rect_between}
use Rattle.scm_cells.specs.declared.mask.Mask.{Mask}
use Rattle.scm_cells.specs.declared.rect.Rect.{Rect}
use Rattle.scm_cells.proofs.RectLemmas.{places}
use Rattle.scm_render.specs.Canvas.{Sight, under}
use Rattle.scm_render.specs.Drawing.{reach, has_row}
use Rattle.scm_render.proofs.RowLemmas.{IsReached}
use Rattle.scm_widgets.specs.Pictures.{to_end, fold_column}
use Rattle.scm_widgets.specs.Screens.{sight}
use Rattle.scm_document.specs.Pictures.{heading_width, file_mask, mask_row}
use Rattle.scm_document.proofs.StripLemmas.{IsBetween, IsOnScreen, IsReachedFrom, beside_fold, reach-on_screen}
use Rattle.scm_strips.specs.declared.area.Area.{Area}
use Rattle.scm_strips.specs.Shows as rows
use Rattle.scm_strips.specs.Shows.{end_column, title_column}

-- a sight of a screen of w columns from column 0 on, whose mask lets through the columns of area a
pub record IsSeen (s : Sight) (w : ℕ) (a : Area) : Type 0 where
  pub left : s.rect.x ≡ pos 0
  pub width : s.rect.width ≡ w
  pub low : (reach s).x ≡ pos a.left
  pub columns : (reach s).width ≡ a.width
  pub last : end_column a ≤ w

pub seen-between : (s : Sight) (w : ℕ) (a : Area) → IsSeen s w a → IsBetween s.rect (reach s) w a.left (end_column a)
seen-between s w a o = record {
  left = o.left;
  width = o.width;
  low = o.low;
  high = omega (arith, ints, o.low, o.columns);
  first = omega (arith, o.last);
  last = o.last;
}

-- ---- the fold box

pub fold-at : (s : Sight) (w : ℕ) (a : Area) → 3 ≤ a.width → IsSeen s w a → fold_column s ≡ pos (title_column a)
fold-at s w a h o = omega (arith, ints, o.low, o.columns, h)

pub fold-of : (a : Area) → 3 ≤ a.width → pos (title_column a) ≡ rows.fold_column a
fold-of a h = omega (arith, ints, h)

-- ---- under a mask of some columns

under-x : (x y : ℤ) (n : ℕ) (h : Option ℕ) (s : Sight) → (reach (under (record { x = x; y = y; width = Some n; height = h }) s)).x ≡ int_max x s.rect.x
unfolding reach rect_between
under-x x y n h s = refl

under-width : (x y : ℤ) (n : ℕ) (h : Option ℕ) (s : Sight)
    → (reach (under (record { x = x; y = y; width = Some n; height = h }) s)).width ≡ or_zero (int_min (x +ℤ pos n) (end_x_of s.rect) -ℤ int_max x s.rect.x)
unfolding reach rect_between
under-width x y n h s = refl

-- a mask of an area's columns that are on the screen
pub masked-seen : (s : Sight) (w : ℕ) (a : Area) (y : ℤ) (h : Option ℕ) → s.rect.x ≡ pos 0 → s.rect.width ≡ w → end_column a ≤ w
    → IsSeen (under (record { x = pos a.left; y = y; width = Some a.width; height = h }) s) w a
masked-seen s w a y h left width last = record {
  left = left;
  width = width;
  low = under-x (pos a.left) y a.width h s ∙ omega (arith, places, left);
  columns = under-width (pos a.left) y a.width h s ∙ omega (arith, places, left, width, last);
  last = last;
}

pub end-of : (s : Sight) (w : ℕ) (a : Area) (c : ℕ) → c ≤ a.width → IsSeen s w a → to_end s (pos (a.left + c)) ≡ a.width - c
end-of s w a c h o = omega (arith, places, o.low, o.columns, h)

-- under a mask from the area's first column to its end
pub under-seen : (s : Sight) (w : ℕ) (a : Area) (y : ℤ) (h : Option ℕ) → IsSeen s w a
    → IsSeen (under (record { x = pos a.left; y = y; width = Some (to_end s (pos a.left)); height = h }) s) w a
under-seen s w a y h o =
    let n : to_end s (pos a.left) ≡ a.width = omega (arith, places, o.low, o.columns) in
    rw n (masked-seen s w a y h o.left o.width o.last)

-- ---- the columns of a heading before its fold box

pub heading-columns : (s : Sight) (w : ℕ) (a : Area) (c : ℕ) → c + 8 ≤ a.width → IsSeen s w a → heading_width s (pos (a.left + c)) ≡ a.width - 3 - c
heading-columns s w a c h o = let fold = fold-at s w a (omega (arith, h)) o in omega (arith, places, fold, h)

pub heading-between : (s : Sight) (w : ℕ) (a : Area) (c : ℕ) (y : ℤ) → c + 8 ≤ a.width → IsSeen s w a
    → IsBetween s.rect (reach (beside_fold s (a.left + c) y)) w (a.left + c) (title_column a)
heading-between s w a c y h o =
    let x = pos (a.left + c) in
    let n = heading-columns s w a c h o in
    let low : (reach (beside_fold s (a.left + c) y)).x ≡ x = under-x x y (heading_width s x) (Some 1) s ∙ omega (arith, places, o.left) in
    let columns : (reach (beside_fold s (a.left + c) y)).width ≡ a.width - 3 - c =
    under-width x y (heading_width s x) (Some 1) s ∙ omega (arith, places, o.left, o.width, o.last, n, h) in
    record {
      left = o.left;
      width = o.width;
      low = low;
      high = omega (arith, ints, low, columns, h);
      first = omega (arith, o.last, h);
      last = omega (arith, o.last, h);
    }

-- ---- the rows that masks let through

under-row : (x y : ℤ) (n : ℕ) (s : Sight) → (reach (under (record { x = x; y = y; width = Some n; height = Some 1 }) s)).y ≡ int_max y s.rect.y
unfolding reach rect_between
under-row x y n s = refl

under-bottom : (x y : ℤ) (n : ℕ) (s : Sight)
    → end_y_of (reach (under (record { x = x; y = y; width = Some n; height = Some 1 }) s)) ≡ int_max y s.rect.y +ℤ pos (or_zero (int_min (y +ℤ pos 1) (end_y_of s.rect) -ℤ int_max y s.rect.y))
unfolding reach rect_between
under-bottom x y n s = refl

from-row : (m : Rect) (z : ℤ) → has_row m z ≡ true → m.y ≤ℤ z
from-row m z h = grind (arith, ints, h)

before-row : (m : Rect) (z : ℤ) → has_row m z ≡ true → z <ℤ end_y_of m
before-row m z h = grind (arith, ints, h)

has-row : (m : Rect) (z : ℤ) → m.y ≤ℤ z → z <ℤ end_y_of m → has_row m z ≡ true
has-row m z h k =
    let a : int_le m.y z ≡ true = grind (arith, ints, h) in
    let b : int_lt z (end_y_of m) ≡ true = grind (arith, ints, k) in
    rw (a, b) refl

-- under a mask of one row drawing reaches that row
pub one_row-reached : (x y : ℤ) (n : ℕ) (s : Sight) → has_row s.rect y ≡ true → has_row (reach (under (record { x = x; y = y; width = Some n; height = Some 1 }) s)) y ≡ true
one_row-reached x y n s h =
    let above = from-row s.rect y h in
    let below = before-row s.rect y h in
    let m = reach (under (record { x = x; y = y; width = Some n; height = Some 1 }) s) in
    let top : m.y ≡ y = under-row x y n s ∙ omega (arith, places, above) in
    let end : end_y_of m ≡ y +ℤ pos 1 = under-bottom x y n s ∙ omega (arith, places, above, below) in
    has-row m y (omega (arith, ints, top)) (omega (arith, ints, end))

pub heading-reached : (s : Sight) (seen : Rect) (c : ℕ) (y : ℤ) → IsOnScreen seen s.rect → IsReached seen (reach (beside_fold s c y)) y
heading-reached s seen c y on h = one_row-reached (pos c) y (heading_width s (pos c)) s (on y h)

file-top : (x y : ℤ) (n : ℕ) (s : Sight) → (reach (under (record { x = x; y = y; width = Some n; height = None }) s)).y ≡ int_max y s.rect.y
unfolding reach rect_between
file-top x y n s = refl

file-bottom : (x y : ℤ) (n : ℕ) (s : Sight)
    → end_y_of (reach (under (record { x = x; y = y; width = Some n; height = None }) s)) ≡ int_max y s.rect.y +ℤ pos (or_zero (int_min (y +ℤ pos (or_zero (end_y_of s.rect -ℤ y))) (end_y_of s.rect) -ℤ int_max y s.rect.y))
unfolding reach rect_between
file-bottom x y n s = refl

-- under the mask of a file drawing reaches all rows of the screen from its first on
pub file-reached : (s : Sight) (x y : ℤ) → IsReachedFrom y (reach s) (reach (under (file_mask s x y) s))
file-reached s x y z h on =
    let shown = reach-on_screen s z on in
    let a = from-row s.rect z shown in
    let b = before-row s.rect z shown in
    let m = reach (under (file_mask s x y) s) in
    has-row m z (top m.y s.rect.y (file-top x y (to_end s x) s) a) (end (end_y_of m) s.rect.y (end_y_of s.rect) (file-bottom x y (to_end s x) s) a b)
  where
    top : (t v : ℤ) → t ≡ int_max y v → v ≤ℤ z → t ≤ℤ z
    top t v e p = omega (arith, places, e, p, h)

    end : (t v f : ℤ) → t ≡ int_max y v +ℤ pos (or_zero (int_min (y +ℤ pos (or_zero (f -ℤ y))) f -ℤ int_max y v)) → v ≤ℤ z → z <ℤ f → z <ℤ t
    end t v f e p q = omega (arith, places, e, p, q, h)

-- ---- the rows below the menu bar

-- a mask of an area's columns on all rows below the screen's first
pub reach-height : (x y : ℤ) (n : ℕ) (s : Sight) → y ≡ s.rect.y +ℤ pos 1 → (reach (under (record { x = x; y = y; width = Some n; height = None }) s)).height ≡ s.rect.height - 1
unfolding reach rect_between
reach-height x y n s e = omega (arith, places, e)

-- the mask of an area on the rows below the menu bar, on a screen at row s
abbrev pub area_mask : Area → ℕ → Mask
area_mask a s = record { x = pos a.left; y = pos s +ℤ pos 1; width = Some a.width; height = None }

-- what is in sight under it
abbrev pub area_sight : ℕ → ℕ → ℕ → Area → Sight
area_sight w h s a = under (area_mask a s) (sight w h s)

-- the columns of an area, ten or more, on the rows below the first of a screen of h rows at row s
pub record ShowsArea (t : Sight) (w h s : ℕ) (a : Area) : Type 0 where
  pub seen : IsSeen t w a
  pub wide : 10 ≤ a.width
  pub width : w ≤ 65535
  pub height : h ≤ 65535
  pub rows : (reach t).height ≡ h - 1
  pub first : mask_row t ≡ pos (s + 1)

pub shows-area : (w h s : ℕ) (a : Area) → 10 ≤ a.width → end_column a ≤ w → w ≤ 65535 → h ≤ 65535 → ShowsArea (area_sight w h s a) w h s a
shows-area w h s a wide last p q = record {
  seen = masked-seen (sight w h s) w a (pos s +ℤ pos 1) None refl refl last;
  wide = wide;
  width = p;
  height = q;
  rows = reach-height (pos a.left) (pos s +ℤ pos 1) a.width (sight w h s) refl;
  first = omega (arith, ints);
}

pub has_row-area : (w h s z : ℕ) (a : Area) → s < z → z < s + h → has_row (reach (area_sight w h s a)) (pos z) ≡ true
has_row-area w h s z a below above =
    let m = reach (area_sight w h s a) in
    let top : m.y ≡ int_max (pos s +ℤ pos 1) (pos s) = file-top (pos a.left) (pos s +ℤ pos 1) a.width (sight w h s) in
    let rows : m.height ≡ h - 1 = reach-height (pos a.left) (pos s +ℤ pos 1) a.width (sight w h s) refl in
    has-row m (pos z) (omega (arith, places, top, below)) (omega (arith, places, top, rows, below, above))
