-- Where texts are put on a row of the screen.
use Rattle.std.specs.Prelude.{◌≡◌, ◌⊎◌, ℤ, ◌-ℤ◌, ◌≤ℤ◌, ◌<ℤ◌, ℕ, ◌<◌, ◌≤◌, List, [], slice_index_or, slice_set, true, false, Option, Some, None}
use Rattle.std.specs.Int.RustNames.{unsigned_abs}
use Rattle.scm_cells.specs.Rect.{end_x_of, end_y_of}
use Rattle.scm_cells.specs.Row.{put}
use Rattle.scm_cells.specs.declared.rect.Rect.{Rect}
use Rattle.scm_render.specs.Canvas.{SurfaceState}
use Rattle.scm_render.specs.Drawing.{has_row}
use Rattle.scm_render.specs.Rows.{limit}
use Rattle.scm_render.specs.declared.surface.Place.{Place}

-- row `y` of the document at its place on a screen that shows the rectangle `v`, clipped to the rectangle `m`, which has the row
pub record IsPlace (p : Place) (v m : Rect) (y : ℤ) : Type 0 where
  pub shown : has_row m y ≡ true
  pub top : v.y ≤ℤ y
  pub bottom : y <ℤ end_y_of v
  pub row : p.row ≡ unsigned_abs (v.y -ℤ y)
  pub low : p.low ≡ limit v m.x
  pub high : p.high ≡ limit v (end_x_of m)

-- the place of row `y`, or `None` if the rectangle `m` or the screen has no such row
abbrev pub IsPlaceOf : Option Place → Rect → Rect → ℤ → Type 0
IsPlaceOf (Some p) v m y = IsPlace p v m y
IsPlaceOf None v m y = (has_row m y ≡ false) ⊎ (has_row v y ≡ false)

-- the place is one of a screen that shows the rectangle `v`
pub record FitsIn (p : Place) (v : Rect) : Type 0 where
  pub row : p.row < v.height
  pub high : p.high ≤ v.width

-- the screen after a text is put on the row of the place, from column `x` of the screen
abbrev pub put_on : Place → ℤ → List ℕ → SurfaceState → SurfaceState
put_on p x text s =
    record s { rows = slice_set s.rows p.row (put (slice_index_or s.rows p.row []) x text p.low p.high) }
