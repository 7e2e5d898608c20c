-- Places and widths far from the ends of their range: what is drawn there is in range.
use Rattle.std.specs.Prelude.{◌^◌, ℤ, pos, neg_ℤ, ◌≤ℤ◌}

-- a column or row that is near the document's corner
pub record IsNear (z : ℤ) : Type 0 where
  pub low : neg_ℤ (pos (2 ^ 60)) ≤ℤ z
  pub high : z ≤ℤ pos (2 ^ 60)
