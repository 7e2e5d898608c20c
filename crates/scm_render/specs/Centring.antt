-- Rectangles in the middle of other rectangles, computed in hundredths of a cell, for columns and rows apart.
use Rattle.std.specs.Prelude.{ℕ, ◌-◌, ◌*◌, ◌/◌, min, max, pos, ◌+ℤ◌}
use Rattle.scm_cells.specs.declared.rect.Rect.{Rect}
use Rattle.scm_cells.specs.declared.rect.RectSize.{RectSize}

-- a size in hundredths of a cell: `percent` per cent of `room`, but at least `least` cells if `room` has that many
abbrev pub hundredths : ℕ → ℕ → ℕ → ℕ
hundredths room least percent = max (percent * room) (100 * min least room)

-- that size in whole cells
abbrev pub centred_size : ℕ → ℕ → ℕ → ℕ
centred_size room least percent = hundredths room least percent / 100

-- the whole cells before it: half of the remaining hundredths
abbrev pub centred_gap : ℕ → ℕ → ℕ → ℕ
centred_gap room least percent = (100 * room - hundredths room least percent) / 200

-- the rectangle in the middle of `r` with these percentages of its size, and at least the size `least` if there is room
unfoldable pub centred_rect : Rect → RectSize → ℕ → ℕ → Rect
centred_rect r least percent_width percent_height = record {
  x = r.x +ℤ pos (centred_gap r.width least.width percent_width);
  y = r.y +ℤ pos (centred_gap r.height least.height percent_height);
  width = centred_size r.width least.width percent_width;
  height = centred_size r.height least.height percent_height;
}
