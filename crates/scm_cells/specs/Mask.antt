-- Masks: rectangles whose sides may be open.
use Rattle.std.specs.Prelude.{ℕ, ℤ, pos, ◌+ℤ◌, ◌-ℤ◌, ◌≤ℤ◌, ◌<ℤ◌, Option, Some, None}
use Rattle.scm_cells.specs.Rect.{InRange, or_zero, intersect_of, end_x_of, end_y_of}
use Rattle.scm_cells.specs.declared.rect.Rect.{Rect}
use Rattle.scm_cells.specs.declared.mask.Mask.{Mask}

-- the end of a side that begins at `z` is in range, if there is one
abbrev pub SideInRange : ℤ → Option ℕ → Type 0
SideInRange z (Some n) = InRange (z +ℤ pos n)
SideInRange z None = Unit {0}

-- the places of a mask and its ends are in range
pub record MaskInRange (m : Mask) : Type 0 where
  pub x : InRange m.x
  pub end_x : SideInRange m.x m.width
  pub y : InRange m.y
  pub end_y : SideInRange m.y m.height

-- the length of a side that begins at `z`; an open side reaches to `end`
abbrev pub side_or : Option ℕ → ℤ → ℤ → ℕ
side_or (Some n) z end = n
side_or None z end = or_zero (end -ℤ z)

-- the end of a side that begins at `z`, exclusive, or `None` for an open side
abbrev pub end_of : ℤ → Option ℕ → Option ℤ
end_of z (Some n) = Some (z +ℤ pos n)
end_of z None = None

-- the mask as a rectangle: open sides reach to the ends of `r`
abbrev pub mask_rect_of : Mask → Rect → Rect
mask_rect_of m r = record { x = m.x; y = m.y; width = side_or m.width m.x (end_x_of r); height = side_or m.height m.y (end_y_of r) }

-- the part of the rectangle that the mask lets through
abbrev pub apply_of : Mask → Rect → Rect
apply_of m r = intersect_of (mask_rect_of m r) r

-- the place `z` is before the end of a side that begins at `from`, if there is one
abbrev pub IsBeforeEnd : ℤ → Option ℕ → ℤ → Type 0
IsBeforeEnd from (Some n) z = z <ℤ (from +ℤ pos n)
IsBeforeEnd from None z = Unit {0}

-- the mask lets the point through
pub record InMask (m : Mask) (x y : ℤ) : Type 0 where
  pub left : m.x ≤ℤ x
  pub right : IsBeforeEnd m.x m.width x
  pub top : m.y ≤ℤ y
  pub bottom : IsBeforeEnd m.y m.height y
