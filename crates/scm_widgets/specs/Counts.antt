-- The counts of drawing: rows of the document that are begun, and draw calls. They count only on rows that the screen shows.
use Rattle.std.specs.Prelude.{ℕ, ℤ, if◌then◌else◌}
use Rattle.scm_cells.specs.Counts.{Counts, no_counts}
use Rattle.scm_cells.specs.declared.rect.Rect.{Rect}
use Rattle.scm_render.specs.Drawing.{has_row}

-- a number of rows and of draw calls
abbrev pub drawn : ℕ → ℕ → Counts
drawn rows calls = record { rows = rows; calls = calls }

-- counts n if screen v shows row y, else none
unfoldable pub on_row : Rect → ℤ → Counts → Counts
on_row v y n = if has_row v y then n else no_counts
