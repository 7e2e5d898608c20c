-- The places at which a session is drawn: within the limit of a scroll, and two screens beyond it.
use Rattle.std.specs.Prelude.{◌+◌, ◌^◌, ℤ, pos, ◌≤ℤ◌}
use Rattle.scm_types.specs.Limits.{max_scroll}
use Rattle.scm_cells.specs.Rect.{end_x_of}
use Rattle.scm_render.specs.Canvas.{Sight}
use Rattle.scm_render.specs.Drawing.{mask_or}

-- A column or row of the document or the screen, within the bounds. At most `max_scroll` rows lie above a screen of at most 65,535 columns
-- and rows, and at most two documents are side by side.
pub record IsInScrollBounds (z : ℤ) : Type 0 where
  pub low : pos 0 ≤ℤ z
  pub high : z ≤ℤ pos (max_scroll + 2 ^ 17)

-- The screen's columns and the mask's first column and row are within the bounds.
pub record SightIsInScrollBounds (s : Sight) : Type 0 where
  pub x : IsInScrollBounds s.rect.x
  pub end_x : IsInScrollBounds (end_x_of s.rect)
  pub mask_x : IsInScrollBounds (mask_or s.mask s.rect).x
  pub mask_y : IsInScrollBounds (mask_or s.mask s.rect).y
