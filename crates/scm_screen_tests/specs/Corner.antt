-- Places at the document's corner, where tests draw.
use Rattle.std.specs.Prelude.{ℤ, pos, neg_ℤ, ◌≤ℤ◌}
use Rattle.scm_cells.specs.Rect.{end_x_of, end_y_of}
use Rattle.scm_render.specs.Canvas.{Sight}
use Rattle.scm_render.specs.Drawing.{mask_or}

-- a column or row at most 1000 away
pub record IsAtCorner (z : ℤ) : Type 0 where
  pub low : neg_ℤ (pos 1000) ≤ℤ z
  pub high : z ≤ℤ pos 1000

-- the columns and rows that the screen shows, and where the mask begins
pub record SightIsAtCorner (s : Sight) : Type 0 where
  pub x : IsAtCorner s.rect.x
  pub end_x : IsAtCorner (end_x_of s.rect)
  pub y : IsAtCorner s.rect.y
  pub end_y : IsAtCorner (end_y_of s.rect)
  pub mask_x : IsAtCorner (mask_or s.mask s.rect).x
  pub mask_y : IsAtCorner (mask_or s.mask s.rect).y
