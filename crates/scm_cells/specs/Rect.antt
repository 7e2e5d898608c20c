-- Rectangles as sets of points.
use Rattle.std.specs.Prelude.{ℕ, ◌^◌, ℤ, pos, negsuc, neg_ℤ, ◌+ℤ◌, ◌-ℤ◌, ◌≤ℤ◌, ◌<ℤ◌, Bool, ◌||◌, ◌==◌, if◌then◌else◌}
use Rattle.std.specs.Int.{int_min, int_max}
use Rattle.scm_cells.specs.declared.rect.Rect.{Rect}

-- a column or row between -2^62 and 2^62, so that the difference of two fits in 64 bits too
pub record InRange (z : ℤ) : Type 0 where
  pub low : neg_ℤ (pos (2 ^ 62)) <ℤ z
  pub high : z <ℤ pos (2 ^ 62)

-- the first column after the rectangle
abbrev pub end_x_of : Rect → ℤ
end_x_of r = r.x +ℤ pos r.width

-- the first row below the rectangle
abbrev pub end_y_of : Rect → ℤ
end_y_of r = r.y +ℤ pos r.height

-- the places and ends of a rectangle are in range
pub record RectInRange (r : Rect) : Type 0 where
  pub x : InRange r.x
  pub end_x : InRange (r.x +ℤ pos r.width)
  pub y : InRange r.y
  pub end_y : InRange (r.y +ℤ pos r.height)

-- the point lies in the rectangle
pub record HasPoint (r : Rect) (x y : ℤ) : Type 0 where
  pub left : r.x ≤ℤ x
  pub right : x <ℤ (r.x +ℤ pos r.width)
  pub top : r.y ≤ℤ y
  pub bottom : y <ℤ (r.y +ℤ pos r.height)

-- the integer, or 0 if it is negative
abbrev pub or_zero : ℤ → ℕ
or_zero (pos n) = n
or_zero (negsuc n) = 0

-- whether the rectangle has no cell
abbrev pub is_empty : Rect → Bool
is_empty r = (r.width == 0) || (r.height == 0)

-- the rectangle from `x`, `y` to the exclusive ends; a negative side becomes 0
unfoldable pub rect_between : ℤ → ℤ → ℤ → ℤ → Rect
rect_between x y end_x end_y = record { x = x; y = y; width = or_zero (end_x -ℤ x); height = or_zero (end_y -ℤ y) }

-- the intersection: it begins at the greater column and row, and ends at the lesser ends
abbrev pub intersect_of : Rect → Rect → Rect
intersect_of a b =
    rect_between (int_max a.x b.x) (int_max a.y b.y) (int_min (end_x_of a) (end_x_of b)) (int_min (end_y_of a) (end_y_of b))

-- the least rectangle around both, where an empty one is ignored
abbrev pub union_of : Rect → Rect → Rect
union_of a b =
    if is_empty a then b
    else if is_empty b then a
    else rect_between (int_min a.x b.x) (int_min a.y b.y) (int_max (end_x_of a) (end_x_of b)) (int_max (end_y_of a) (end_y_of b))

-- each point of the first rectangle is one of the second
abbrev pub IsWithin : Rect → Rect → Type 0
IsWithin a b = (x y : ℤ) → HasPoint a x y → HasPoint b x y

-- the rectangle `r` contains `a` and `b`, and lies within each rectangle that does
pub record IsLeastAround (a b r : Rect) : Type 0 where
  pub first : IsWithin a r
  pub second : IsWithin b r
  pub least : (outer : Rect) → IsWithin a outer → IsWithin b outer → IsWithin r outer
