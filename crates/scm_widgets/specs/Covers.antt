-- What a text covers if its row is not on the screen.
use Rattle.std.specs.Prelude.{ℕ, ℤ, pos, ◌+ℤ◌, ◌-ℤ◌, int_lt, if◌then◌else◌}
use Rattle.scm_cells.specs.Rect.{end_x_of}
use Rattle.scm_cells.specs.Row.{ellipsis}
use Rattle.scm_cells.specs.Clusters.{text_width}
use Rattle.scm_render.specs.Canvas.{Sight}
use Rattle.scm_render.specs.Drawing.{reach, row_rect}
use Rattle.scm_render.specs.Picture.{nothing, followed_by, covering}
use Rattle.scm_widgets.specs.Pictures.{IdPicture}

-- the cover of n columns from column x of row y on, and of the ellipsis if they go past the end of the mask
unfoldable pub texts_cover : Sight → ℤ → ℤ → ℕ → IdPicture
texts_cover s x y n =
    let end = end_x_of (reach s) in
    followed_by (covering (row_rect x y n))
    (if int_lt end (x +ℤ pos n) then covering (row_rect (end -ℤ pos 1) y (text_width ellipsis)) else nothing)
