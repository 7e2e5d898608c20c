-- A sight within the bounds in which a component alone can be drawn.
use Rattle.scm_cells.specs.Rect.{end_x_of}
use Rattle.scm_render.specs.Canvas.{Sight}
use Rattle.scm_render.specs.Drawing.{mask_or}
use Rattle.scm_widgets.specs.DrawBounds.{IsInDrawBounds}

-- The screen's first and end column and the mask's first column and row are within the bounds.
pub record SightIsInDrawBounds (s : Sight) : Type 0 where
  pub x : IsInDrawBounds s.rect.x
  pub end_x : IsInDrawBounds (end_x_of s.rect)
  pub mask_x : IsInDrawBounds (mask_or s.mask s.rect).x
  pub mask_y : IsInDrawBounds (mask_or s.mask s.rect).y
