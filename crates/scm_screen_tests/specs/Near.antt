-- Places near the document's corner, where tests draw.
use Rattle.std.specs.Prelude.{◌≤◌, ℤ, pos, neg_ℤ, ◌≤ℤ◌, List, [], ◌∷◌}
use Rattle.scm_cells.specs.Clusters.{text_width}
use Rattle.scm_render.specs.Bounds.{Bounds}
use Rattle.scm_screen_tests.specs.declared.samples.Caption.{Caption}

-- a column or row that is near: at most 1000 away
pub record IsNear (z : ℤ) : Type 0 where
  pub low : neg_ℤ (pos 1000) ≤ℤ z
  pub high : z ≤ℤ pos 1000

-- what is drawn near the corner stays within these bounds
abbrev pub near : Bounds
near = record { left = neg_ℤ (pos 2000); right = pos 2000; top = neg_ℤ (pos 2000); bottom = pos 2000 }

-- texts of at most 100 columns each
abbrev pub AreShort : List Caption → Type 0
AreShort [] = Unit {0}
AreShort (c ∷ cs) = (text_width c.text.now ≤ 100) × AreShort cs
