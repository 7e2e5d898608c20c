-- Columns that are blanked.
use Rattle.std.specs.Prelude.{ℕ, ◌-◌, pos, List, replicate, None}
use Rattle.scm_cells.specs.Row.{put}
use Rattle.scm_cells.specs.Cell.{blank}
use Rattle.scm_render.specs.Canvas.{Row}
use Rattle.scm_widgets.specs.declared.ids.ComponentId.{ComponentId}
use Rattle.scm_widgets.specs.Layers.{Strip}

-- n spaces
abbrev pub spaces : ℕ → List ℕ
spaces n = replicate n 32

-- a row of w spaces
abbrev pub blank_row : ℕ → Row
blank_row w = replicate w blank

-- the row with columns a..b blanked
abbrev pub blanked : ℕ → ℕ → Row → Row
blanked a b row = put row (pos a) (spaces (b - a)) a b

-- columns a..b, blanked; they have no owner
abbrev pub blank_strip : ℕ → ℕ → Strip ComponentId
blank_strip a b = record { shows = blanked a b; owner = λ x. None }
