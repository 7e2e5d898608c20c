-- A row of the screen after texts are put on it.
use Rattle.std.specs.Prelude.{ℕ, ℤ, pos, ◌+ℤ◌, ◌-ℤ◌, int_lt, List, [], ◌∷◌, if◌then◌else◌}
use Rattle.scm_cells.specs.Clusters.{text_width}
use Rattle.scm_cells.specs.Row.{put, ellipsis}
use Rattle.scm_cells.specs.declared.rect.Rect.{Rect}
use Rattle.scm_render.specs.Canvas.{Row, clamp_column}
use Rattle.scm_render.specs.Drawing.{texts_width}

-- the row after texts are put on it side by side from `column`, clipped to the columns `low..high`
unfoldable pub put_texts : Row → ℤ → List (List ℕ) → ℕ → ℕ → Row
put_texts row column [] low high = row
put_texts row column (t ∷ ts) low high = put_texts (put row column t low high) (column +ℤ pos (text_width t)) ts low high

-- the same, with an ellipsis in the column before `high` if the texts are longer
unfoldable pub say_texts : Row → ℤ → List (List ℕ) → ℕ → ℕ → Row
say_texts row column ts low high =
    let cut = put_texts row column ts low high in
    if int_lt (pos high) (column +ℤ pos (texts_width ts)) then put cut (pos high -ℤ pos 1) ellipsis low high else cut

-- ---- columns of the document on the screen

-- column `x` of the document as a column of the screen, clamped to the screen, which shows the rectangle `v`
abbrev pub limit : Rect → ℤ → ℕ
limit v x = clamp_column v.width (x -ℤ v.x)
