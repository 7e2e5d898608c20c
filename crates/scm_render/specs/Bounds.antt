-- Bounds of a picture. A picture within bounds that are in range is in range.
use Rattle.std.specs.Prelude.{ℤ, ◌≤ℤ◌, ◌<ℤ◌, List, [], ◌∷◌}
use Rattle.scm_cells.specs.Rect.{InRange, end_x_of, end_y_of}
use Rattle.scm_cells.specs.declared.rect.Rect.{Rect}
use Rattle.scm_render.specs.Picture.{Picture}
use Rattle.scm_render.specs.Canvas.{Sight}
use Rattle.scm_render.specs.Drawing.{mask_or}

-- the columns `left..right` of the rows `top..bottom`
pub record Bounds : Type 0 where
  pub left : ℤ
  pub right : ℤ
  pub top : ℤ
  pub bottom : ℤ

-- the columns of the screen lie within the bounds and after their first column, and the mask begins within the bounds
pub record SightWithin (b : Bounds) (s : Sight) : Type 0 where
  pub x : b.left <ℤ s.rect.x
  pub end_x : end_x_of s.rect ≤ℤ b.right
  pub mask_x : (mask_or s.mask s.rect).x ≤ℤ b.right

-- the bounds are in range
pub record BoundsInRange (b : Bounds) : Type 0 where
  pub left : InRange b.left
  pub right : InRange b.right
  pub top : InRange b.top
  pub bottom : InRange b.bottom

-- the rectangle lies within the bounds
pub record RectWithin (b : Bounds) (r : Rect) : Type 0 where
  pub x : b.left ≤ℤ r.x
  pub end_x : end_x_of r ≤ℤ b.right
  pub y : b.top ≤ℤ r.y
  pub end_y : end_y_of r ≤ℤ b.bottom

-- each rectangle lies within the bounds
abbrev pub RectsWithin : Bounds → List Rect → Type 0
RectsWithin b [] = Unit {0}
RectsWithin b (r ∷ rs) = RectWithin b r × RectsWithin b rs

-- each rectangle that the picture draws or covers lies within the bounds, visible or not
pub record PictureWithin {K : Type 0} (b : Bounds) (p : Picture K) : Type 0 where
  pub areas : RectsWithin b p.areas
