-- The remaining picture of a loop that draws part by part.
use Rattle.std.specs.Prelude.{◌≡◌}
use Rattle.scm_render.specs.Picture.{Picture, PictureInRange}
use Rattle.scm_render.specs.Canvas.{Canvas, with_picture}

-- `d` is the canvas `c` with the picture `whole`, except for the remaining picture `left`
pub record IsLeft {K : Type 0} (c d : Canvas K) (left whole : Picture K) : Type 0 where
  pub sight : d.sight ≡ c.sight
  pub in_range : PictureInRange left
  pub drawn : with_picture d left ≡ with_picture c whole
