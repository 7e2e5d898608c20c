use Rattle.std.proofs.Common.{◌≡◌, ℕ, ◌-◌, ◌<◌, Bool, true, false, arith, refl}
use Rattle.std.specs.Prelude.{ℤ, pos, negsuc, ◌+ℤ◌, ◌-ℤ◌, ◌≤ℤ◌, ◌<ℤ◌, ◌↔◌, if◌then◌else◌}
use Rattle.std.specs.Int.{int_min, int_max}
use Rattle.std.proofs.lemmas.Bool.Decides.{nat_tests}
use borrow.Author.Differences.{up, down}
use Rattle.std.proofs.lemmas.Int.{ints, clamps}
use Rattle.scm_cells.specs.Rect.{InRange, RectInRange, HasPoint, IsWithin, IsLeastAround, end_x_of, end_y_of, or_zero, is_empty, rect_between, intersect_of, union_of}
use Rattle.scm_cells.specs.declared.rect.Rect.{Rect}

-- ---- on one side

pub or_zero-is : (z : ℤ) → or_zero z ≡ up z - down z
or_zero-is (pos n) = omega arith
or_zero-is (negsuc n) = omega arith

pub ruleset places = (ints, clamps, or_zero-is)

in_max : (a b : ℤ) → InRange a → InRange b → InRange (int_max a b)
in_max a b p q = record { low = omega (arith, places); high = omega (arith, places) }

in_min : (a b : ℤ) → InRange a → InRange b → InRange (int_min a b)
in_min a b p q = record { low = omega (arith, places); high = omega (arith, places) }

pub in_end : (z e : ℤ) → InRange z → InRange e → InRange (z +ℤ pos (or_zero (e -ℤ z)))
in_end z e p q = record { low = omega (arith, places); high = omega (arith, places) }

pub RectInRange-between : (x y ex ey : ℤ) → InRange x → InRange y → InRange ex → InRange ey → RectInRange (rect_between x y ex ey)
unfolding rect_between
RectInRange-between x y ex ey p q r s = record { x = p; end_x = in_end x ex p r; y = q; end_y = in_end y ey q s }

pub RectInRange-intersect : (a b : Rect) → RectInRange a → RectInRange b → RectInRange (intersect_of a b)
RectInRange-intersect a b p q =
    RectInRange-between _ _ _ _ (in_max _ _ p.x q.x) (in_max _ _ p.y q.y) (in_min _ _ p.end_x q.end_x) (in_min _ _ p.end_y q.end_y)

-- a place between the greater beginning and the lesser end
side-out : (a b ea eb x : ℤ) → int_max a b ≤ℤ x → x <ℤ (int_max a b +ℤ pos (or_zero (int_min ea eb -ℤ int_max a b)))
    → (a ≤ℤ x) × (b ≤ℤ x) × (x <ℤ ea) × (x <ℤ eb)
side-out a b ea eb x p q = (omega (arith, places), omega (arith, places), omega (arith, places), omega (arith, places))

side-in : (a b ea eb x : ℤ) → a ≤ℤ x → b ≤ℤ x → x <ℤ ea → x <ℤ eb
    → (int_max a b ≤ℤ x) × (x <ℤ (int_max a b +ℤ pos (or_zero (int_min ea eb -ℤ int_max a b))))
side-in a b ea eb x p q r s = (omega (arith, places), omega (arith, places))

pub points-intersect : (a b : Rect) → RectInRange a → RectInRange b → (x y : ℤ) → HasPoint (intersect_of a b) x y ↔ (HasPoint a x y × HasPoint b x y)
unfolding rect_between
points-intersect a b p q x y = (
  (λ h.
      let sx = side-out a.x b.x (end_x_of a) (end_x_of b) x h.left h.right in
      let sy = side-out a.y b.y (end_y_of a) (end_y_of b) y h.top h.bottom in
      (record { left = sx.0; right = sx.2; top = sy.0; bottom = sy.2 }, record { left = sx.1; right = sx.3; top = sy.1; bottom = sy.3 })),
  (λ h.
      let sx = side-in a.x b.x (end_x_of a) (end_x_of b) x h.0.left h.1.left h.0.right h.1.right in
      let sy = side-in a.y b.y (end_y_of a) (end_y_of b) y h.0.top h.1.top h.0.bottom h.1.bottom in
      record { left = sx.0; right = sx.1; top = sy.0; bottom = sy.1 }),
)

-- `rect_between` of equal numbers
pub rect_between-same : (x x' y y' ex ex' ey ey' : ℤ) → x ≡ x' → y ≡ y' → ex ≡ ex' → ey ≡ ey' → rect_between x y ex ey ≡ rect_between x' y' ex' ey'
rect_between-same x x' y y' ex ex' ey ey' p q r s = cc

pub RectInRange-if : (b : Bool) (x y : Rect) → RectInRange x → RectInRange y → RectInRange (if b then x else y)
RectInRange-if true x y p q = p
RectInRange-if false x y p q = q

pub RectInRange-union : (a b : Rect) → RectInRange a → RectInRange b → RectInRange (union_of a b)
RectInRange-union a b p q =
    RectInRange-if _ _ _ q (RectInRange-if _ _ _ p
    (RectInRange-between _ _ _ _ (in_min _ _ p.x q.x) (in_min _ _ p.y q.y) (in_max _ _ p.end_x q.end_x) (in_max _ _ p.end_y q.end_y)))

-- ---- two rectangles with points

-- a rectangle with points has a column and a row
has_sides : (r : Rect) → is_empty r ≡ false → (0 < r.width) × (0 < r.height)
has_sides r e = (grind (arith, nat_tests), grind (arith, nat_tests))

corner : (r : Rect) → is_empty r ≡ false → HasPoint r r.x r.y
corner r e = let sides = has_sides r e in
    let w = sides.0 in
    let h = sides.1 in
    record { left = omega (arith, places); right = omega (arith, places); top = omega (arith, places); bottom = omega (arith, places) }

last_point : (r : Rect) → is_empty r ≡ false → HasPoint r (r.x +ℤ pos (r.width - 1)) (r.y +ℤ pos (r.height - 1))
last_point r e = let sides = has_sides r e in
    let w = sides.0 in
    let h = sides.1 in
    record { left = omega (arith, places); right = omega (arith, places); top = omega (arith, places); bottom = omega (arith, places) }

-- the ends of a rectangle with points that lies within another
pub record EndsWithin (a r : Rect) : Type 0 where
  pub left : r.x ≤ℤ a.x
  pub right : (a.x +ℤ pos a.width) ≤ℤ (r.x +ℤ pos r.width)
  pub top : r.y ≤ℤ a.y
  pub bottom : (a.y +ℤ pos a.height) ≤ℤ (r.y +ℤ pos r.height)

pub EndsWithin-points : (a r : Rect) → is_empty a ≡ false → IsWithin a r → EndsWithin a r
EndsWithin-points a r e within =
    let first = within _ _ (corner a e) in
    let last = within _ _ (last_point a e) in
    let sides = has_sides a e in
    let w = sides.0 in
    let h = sides.1 in
    record { left = first.left; right = omega (arith, places); top = first.top; bottom = omega (arith, places) }

-- one side of the least around two
side_of_union : (x a b ea eb l e : ℤ) → a <ℤ ea → b <ℤ eb → int_min a b ≤ℤ x → x <ℤ (int_min a b +ℤ pos (or_zero (int_max ea eb -ℤ int_min a b)))
    → l ≤ℤ a → l ≤ℤ b → ea ≤ℤ e → eb ≤ℤ e → (l ≤ℤ x) × (x <ℤ e)
side_of_union x a b ea eb l e p q r s t u v w = (omega (arith, places), omega (arith, places))

side_into_union : (x a b ea eb : ℤ) → (a ≤ℤ x) → (x <ℤ ea) → (int_min a b ≤ℤ x) × (x <ℤ (int_min a b +ℤ pos (or_zero (int_max ea eb -ℤ int_min a b))))
side_into_union x a b ea eb p q = (omega (arith, places), omega (arith, places))

side_into_union_second : (x a b ea eb : ℤ) → (b ≤ℤ x) → (x <ℤ eb) → (int_min a b ≤ℤ x) × (x <ℤ (int_min a b +ℤ pos (or_zero (int_max ea eb -ℤ int_min a b))))
side_into_union_second x a b ea eb p q = (omega (arith, places), omega (arith, places))

longer : (x : ℤ) (n : ℕ) → 0 < n → x <ℤ (x +ℤ pos n)
longer x n h = omega (arith, places)

abbrev pub box_around : Rect → Rect → Rect
box_around a b = rect_between (int_min a.x b.x) (int_min a.y b.y) (int_max (end_x_of a) (end_x_of b)) (int_max (end_y_of a) (end_y_of b))

pub IsLeastAround-box : (a b : Rect) → is_empty a ≡ false → is_empty b ≡ false → IsLeastAround a b (box_around a b)
unfolding rect_between
IsLeastAround-box a b e f = record {
  first = λ x y h.
      let sx = side_into_union x a.x b.x (end_x_of a) (end_x_of b) h.left h.right in
      let sy = side_into_union y a.y b.y (end_y_of a) (end_y_of b) h.top h.bottom in
      record { left = sx.0; right = sx.1; top = sy.0; bottom = sy.1 };
  second = λ x y h.
      let sx = side_into_union_second x a.x b.x (end_x_of a) (end_x_of b) h.left h.right in
      let sy = side_into_union_second y a.y b.y (end_y_of a) (end_y_of b) h.top h.bottom in
      record { left = sx.0; right = sx.1; top = sy.0; bottom = sy.1 };
  least = λ r p q.
      let wa = has_sides a e in
      let wb = has_sides b f in
      let pa = EndsWithin-points a r e p in
      let pb = EndsWithin-points b r f q in
      (λ x y h.
      let sx = side_of_union x a.x b.x (end_x_of a) (end_x_of b) r.x (end_x_of r) (longer a.x a.width wa.0) (longer b.x b.width wb.0) h.left h.right pa.left pb.left pa.right pb.right in
      let sy = side_of_union y a.y b.y (end_y_of a) (end_y_of b) r.y (end_y_of r) (longer a.y a.height wa.1) (longer b.y b.height wb.1) h.top h.bottom pa.top pb.top pa.bottom pb.bottom in
      record { left = sx.0; right = sx.1; top = sy.0; bottom = sy.1 });
}

pub IsLeastAround-from_eq : (a b r : Rect) → is_empty a ≡ false → is_empty b ≡ false → r ≡ union_of a b → IsLeastAround a b r
IsLeastAround-from_eq a b r e f same =
    let boxed : union_of a b ≡ box_around a b = rw (e, f) refl in
    rw (same, boxed) (IsLeastAround-box a b e f)
