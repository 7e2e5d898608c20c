use Rattle.std.proofs.Common.{ℕ, arith}
use Rattle.std.specs.Prelude.{ℤ, pos, ◌+ℤ◌, ◌≤ℤ◌, ◌<ℤ◌, ◌↔◌, Option, Some, None}
use Rattle.scm_cells.specs.Rect.{InRange, RectInRange, HasPoint, end_x_of, end_y_of}
use Rattle.scm_cells.specs.Mask.{MaskInRange, SideInRange, InMask, IsBeforeEnd, side_or, mask_rect_of, apply_of}
use Rattle.scm_cells.proofs.RectLemmas.{in_end, places, points-intersect}
use Rattle.scm_cells.specs.declared.rect.Rect.{Rect}
use Rattle.scm_cells.specs.declared.mask.Mask.{Mask}

pub SideInRange-or : (side : Option ℕ) (z end : ℤ) → InRange z → SideInRange z side → InRange end → InRange (z +ℤ pos (side_or side z end))
SideInRange-or (Some n) z end p q r = q
SideInRange-or None z end p q r = in_end z end p r

pub RectInRange-sides : (m : Mask) (r : Rect) → MaskInRange m → RectInRange r → RectInRange (mask_rect_of m r)
RectInRange-sides m r p q =
    record { x = p.x; end_x = SideInRange-or _ _ _ p.x p.end_x q.end_x; y = p.y; end_y = SideInRange-or _ _ _ p.y p.end_y q.end_y }

-- a place in the rectangle is before the end of the mask's side exactly if it is before that of the side as the rectangle's
before_end : (side : Option ℕ) (from x end : ℤ) → from ≤ℤ x → x <ℤ end → (x <ℤ (from +ℤ pos (side_or side from end))) ↔ IsBeforeEnd from side x
before_end (Some n) from x end p q = (λ h. h, λ h. h)
before_end None from x end p q = (λ h. tt, λ h. omega (arith, places))

pub points-sides : (m : Mask) (r : Rect) (x y : ℤ) → HasPoint r x y → HasPoint (mask_rect_of m r) x y ↔ InMask m x y
points-sides m r x y h = (
  (λ p. record { left = p.left; right = (before_end m.width m.x x (end_x_of r) p.left h.right).0 p.right; top = p.top; bottom = (before_end m.height m.y y (end_y_of r) p.top h.bottom).0 p.bottom }),
  (λ p. record { left = p.left; right = (before_end m.width m.x x (end_x_of r) p.left h.right).1 p.right; top = p.top; bottom = (before_end m.height m.y y (end_y_of r) p.top h.bottom).1 p.bottom }),
)

pub points-apply : (m : Mask) (r : Rect) → MaskInRange m → RectInRange r → (x y : ℤ) → HasPoint (apply_of m r) x y ↔ (InMask m x y × HasPoint r x y)
points-apply m r p q x y =
    let both = points-intersect (mask_rect_of m r) r (RectInRange-sides m r p q) q x y in (
      (λ h. let parts = both.0 h in ((points-sides m r x y parts.1).0 parts.0, parts.1)),
      (λ h. both.1 ((points-sides m r x y h.1).1 h.0, h.1)),
    )
