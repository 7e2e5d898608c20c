-- Places on the screen, and boxes with their timestamps.
use Rattle.std.specs.Prelude.{ℕ, ℤ, ◌-ℤ◌, ◌+◌, List, [], ◌∷◌, length, Option, Some, None, if◌then◌else◌}
use Rattle.scm_cells.specs.Rect.{or_zero, is_empty, intersect_of}
use Rattle.scm_cells.specs.Screen.{Screen}
use Rattle.scm_cells.specs.declared.rect.Rect.{Rect}
use Rattle.scm_cells.specs.declared.rect.ScreenRect.{ScreenRect}
use Rattle.scm_render.specs.Canvas.{Sight}
use Rattle.scm_render.specs.Picture.{Box}
use Rattle.scm_render.specs.declared.trace.DrawnRect.{DrawnRect}

-- a part of the visible rectangle `v` in rows and columns of the screen
abbrev pub on_screen : Rect → Rect → ScreenRect
on_screen v part = record { x = or_zero (part.x -ℤ v.x); y = or_zero (part.y -ℤ v.y); width = part.width; height = part.height }

-- the part of the rectangle `r` that is on the screen, or `None` if it has no cell
unfoldable pub screen_part : Rect → Rect → Option ScreenRect
screen_part v r = let part = intersect_of v r in if is_empty part then None else Some (on_screen v part)

-- the part of the document on a screen whose first cell shows column `x` and row `y`
abbrev pub screen_rect : Screen → ℤ → ℤ → Rect
screen_rect s x y = record { x = x; y = y; width = s.width; height = length s.rows }

-- the sight of that part, without a mask
abbrev pub whole_sight : Screen → ℤ → ℤ → Sight
whole_sight s x y = record { rect = screen_rect s x y; mask = None }

-- boxes with timestamps from `t`
unfoldable pub with_times_from : {K : Type 0} → ℕ → List (Box K) → List (K × DrawnRect)
with_times_from t [] = []
with_times_from t (b ∷ bs) = (b.0, record { rect = b.1; timestamp = t }) ∷ with_times_from (t + 1) bs

-- each box with its timestamp: its rank in the order in which components begin, from 0
abbrev pub with_times : {K : Type 0} → List (Box K) → List (K × DrawnRect)
with_times boxes = with_times_from 0 boxes
