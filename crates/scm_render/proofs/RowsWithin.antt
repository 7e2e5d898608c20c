-- Texts on a row between the columns of a rectangle, in places of the document.
use Rattle.std.specs.Prelude.{ℕ, ℤ, ◌-ℤ◌, List}
use Rattle.scm_cells.specs.Rect.{end_x_of}
use Rattle.scm_cells.specs.Row.{put}
use Rattle.scm_cells.specs.declared.rect.Rect.{Rect}
use Rattle.scm_render.specs.Canvas.{Row}
use Rattle.scm_render.specs.Rows.{put_texts, say_texts, limit}

-- the row with a text put on it
abbrev pub put_within : Rect → Rect → ℤ → List ℕ → Row → Row
put_within v m x t row = put row (x -ℤ v.x) t (limit v m.x) (limit v (end_x_of m))

-- with several
abbrev pub put_texts_within : Rect → Rect → ℤ → List (List ℕ) → Row → Row
put_texts_within v m x ts row = put_texts row (x -ℤ v.x) ts (limit v m.x) (limit v (end_x_of m))

-- with several and an ellipsis where they are cut
abbrev pub say_within : Rect → Rect → ℤ → List (List ℕ) → Row → Row
say_within v m x ts row = say_texts row (x -ℤ v.x) ts (limit v m.x) (limit v (end_x_of m))
