-- The places at which a component alone can be drawn: at most 2^50 from column 0 or row 0, on either side.
use Rattle.std.specs.Prelude.{◌^◌, ℤ, pos, neg_ℤ, ◌≤ℤ◌}
use Rattle.scm_cells.specs.Rect.{end_x_of, end_y_of}
use Rattle.scm_cells.specs.declared.rect.Rect.{Rect}

-- A column or row within the bounds.
pub record IsInDrawBounds (z : ℤ) : Type 0 where
  pub low : neg_ℤ (pos (2 ^ 50)) ≤ℤ z
  pub high : z ≤ℤ pos (2 ^ 50)

-- The first column and row of the rectangle, and its end column and row, are within the bounds.
pub record RectIsInDrawBounds (r : Rect) : Type 0 where
  pub x : IsInDrawBounds r.x
  pub end_x : IsInDrawBounds (end_x_of r)
  pub y : IsInDrawBounds r.y
  pub end_y : IsInDrawBounds (end_y_of r)
