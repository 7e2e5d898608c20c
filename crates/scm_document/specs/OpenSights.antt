-- A sight that shows a number of columns from column 0 on, all inside the mask.
use Rattle.std.specs.Prelude.{◌≡◌, ℕ, pos}
use Rattle.scm_render.specs.Canvas.{Sight}
use Rattle.scm_render.specs.Drawing.{reach}

-- The screen has `w` columns from column 0 on, all inside the mask.
pub record IsOpen (s : Sight) (w : ℕ) : Type 0 where
  pub left : s.rect.x ≡ pos 0
  pub width : s.rect.width ≡ w
  pub low : (reach s).x ≡ pos 0
  pub columns : (reach s).width ≡ w
