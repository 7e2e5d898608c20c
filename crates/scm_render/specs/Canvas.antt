-- The content of a viewport, and its content after a picture is drawn.
use Rattle.std.specs.Prelude.{ℕ, min, ℤ, pos, ◌+ℤ◌, ◌-ℤ◌, List, [], ◌∷◌, ◌++◌, Option, Some, None, cond}
use Rattle.std.specs.Ordering.{int_eq}
use Rattle.scm_cells.specs.Rect.{or_zero}
use Rattle.scm_cells.specs.declared.rect.Rect.{Rect}
use Rattle.scm_cells.specs.declared.mask.Mask.{Mask}
use Rattle.scm_cells.specs.Mask.{MaskInRange}
use Rattle.scm_cells.specs.Cell.{Cell}
use Rattle.scm_cells.specs.Counts.{Counts}
use Rattle.scm_cells.specs.Row.{put}
use Rattle.scm_render.specs.Picture.{Put, Box, Picture}
use Rattle.scm_render.specs.Around.{around}

-- a row of the screen as cells
abbrev pub Row : Type 0
Row = List Cell

-- what is in sight: the part of the document on the screen, and the mask, if one is set
pub record Sight : Type 0 where
  pub rect : Rect
  pub mask : Option Mask

-- the mask is in range, if one is set
abbrev pub MaskIsInRange : Option Mask → Type 0
MaskIsInRange (Some m) = MaskInRange m
MaskIsInRange None = Unit {0}

-- the sight with mask `m`
abbrev pub under : Mask → Sight → Sight
under m s = record s { mask = Some m }

-- the content of a viewport: its sight, the rows of the screen, the least rectangle around all that the current component drew
-- so far, and the boxes of all components that have begun; without boxes (`None`) the rectangle does not grow
pub record Canvas (K : Type 0) : Type 0 where
  pub sight : Sight
  pub rows : List Row
  pub area : Rect
  pub boxes : Option (List (Box K))

-- the part of the document on the screen, the rows of the screen, and the counts
pub record SurfaceState : Type 0 where
  pub rect : Rect
  pub rows : List Row
  pub counts : Counts

-- a viewport in contracts: its canvas and its counts
pub record ViewportState (K : Type 0) : Type 0 where
  pub canvas : Canvas K
  pub counts : Counts

-- the column `z`, clamped to `0..=n`
abbrev pub clamp_column : ℕ → ℤ → ℕ
clamp_column n z = min n (or_zero z)

-- a row of the screen after the put, where the screen shows the rectangle `v` of the document
abbrev pub put_at : Rect → Put → Row → Row
put_at v p row =
    put row (p.column -ℤ v.x) p.text (clamp_column v.width (p.low -ℤ v.x)) (clamp_column v.width (p.high -ℤ v.x))

-- row `z` of the document after the puts of this row, in order
unfoldable pub paint : Rect → List Put → ℤ → Row → Row
paint v [] z row = row
paint v (p ∷ ps) z row = paint v ps z (cond (int_eq z p.row) (put_at v p row) row)

-- the rows of the screen after the puts, where the first one shows row `z` of the document
unfoldable pub paint_rows : Rect → List Put → ℤ → List Row → List Row
paint_rows v ps z [] = []
paint_rows v ps z (row ∷ rows) = paint v ps z row ∷ paint_rows v ps (z +ℤ pos 1) rows

-- the surface after the puts
unfoldable pub with_puts : List Put → SurfaceState → SurfaceState
with_puts ps s = record { rect = s.rect; rows = paint_rows s.rect ps s.rect.y s.rows; counts = s.counts }

module _ {K : Type 0} where
  -- the canvas with this mask, or with none
  abbrev pub with_mask : Option Mask → Canvas K → Canvas K
  with_mask mask c = record c { sight = record c.sight { mask = mask } }

  -- the boxes and more boxes, if boxes are kept
  abbrev pub kept : Option (List (Box K)) → List (Box K) → Option (List (Box K))
  kept None more = None
  kept (Some boxes) more = Some (boxes ++ more)

  -- the least rectangle around `area` and `more`, if boxes are kept, and else `area`
  abbrev pub kept_area : Option (List (Box K)) → Rect → List Rect → Rect
  kept_area None area more = area
  kept_area (Some boxes) area more = around area more

  -- the canvas after the picture is drawn
  unfoldable pub with_picture : Canvas K → Picture K → Canvas K
  with_picture c m = record {
    sight = c.sight;
    rows = paint_rows c.sight.rect m.puts c.sight.rect.y c.rows;
    area = kept_area c.boxes c.area m.areas;
    boxes = kept c.boxes m.boxes;
  }
