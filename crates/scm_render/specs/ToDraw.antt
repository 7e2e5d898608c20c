-- The rows that drawing has to go through: all of them where boxes are kept, and else those on the screen.
use Rattle.std.specs.Prelude.{ℕ, min, ℤ, ◌-ℤ◌, if◌then◌else◌}
use Rattle.std.specs.Option.{is_some}
use Rattle.scm_cells.specs.Rect.{or_zero, end_y_of}
use Rattle.scm_render.specs.Canvas.{Canvas}

-- how many of the `count` rows from row `y` on lie above row `row`
abbrev pub rows_above : ℤ → ℤ → ℕ → ℕ
rows_above y row count = min (or_zero (row -ℤ y)) count

module _ {K : Type 0} where
  -- how many of the `count` rows from row `y` on come before the first one to draw
  abbrev pub first_to_draw : Canvas K → ℤ → ℕ → ℕ
  first_to_draw c y count = if is_some c.boxes then 0 else rows_above y c.sight.rect.y count

  -- how many of the `count` rows from row `y` on come before the end of those to draw
  abbrev pub end_to_draw : Canvas K → ℤ → ℕ → ℕ
  end_to_draw c y count = if is_some c.boxes then count else rows_above y (end_y_of c.sight.rect) count
