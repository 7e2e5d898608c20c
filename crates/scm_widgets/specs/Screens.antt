-- A screen at a row of the document.
use Rattle.std.specs.Prelude.{ℕ, pos, None}
use Rattle.scm_cells.specs.declared.rect.Rect.{Rect}
use Rattle.scm_render.specs.Canvas.{Sight}

-- A screen of `w` columns and `h` rows whose first row shows row `s` of the document.
abbrev pub screen : ℕ → ℕ → ℕ → Rect
screen w h s = record { x = pos 0; y = pos s; width = w; height = h }

-- Such a screen, without a mask.
abbrev pub sight : ℕ → ℕ → ℕ → Sight
sight w h s = record { rect = screen w h s; mask = None }
