-- Texts that are cut behind the last column in sight.
use Rattle.std.specs.Prelude.{◌≡◌, ◌⊎◌, ℤ, ◌-ℤ◌, ℕ, List, ◌++◌, None}
use Rattle.scm_cells.specs.Beginnings.{IsCut}
use Rattle.scm_cells.specs.Rect.{or_zero, end_x_of}
use Rattle.scm_render.specs.Canvas.{Canvas}
use Rattle.scm_render.specs.Drawing.{reach}
use Rattle.scm_widgets.specs.declared.ids.ComponentId.{ComponentId}

-- from column `x` on, the texts `ts` show on the canvas what the texts `us` show: they are the same, or no boxes are kept and they are
-- cut behind the last column in sight
abbrev pub ShowsFrom : Canvas ComponentId → ℤ → List (List ℕ) → List (List ℕ) → Type 0
ShowsFrom c x ts us = (ts ≡ us) ⊎ ((c.boxes ≡ None) × IsCut (or_zero (end_x_of (reach c.sight) -ℤ x)) ts us)

-- the list `new` is `old` and then texts that show what `us` show
pub record AddsVisible (c : Canvas ComponentId) (x : ℤ) (old new us : List (List ℕ)) : Type 0 where
  pub texts : List (List ℕ)
  pub added : new ≡ old ++ texts
  pub shown : ShowsFrom c x texts us
