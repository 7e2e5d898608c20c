-- The bounds of a screen of at most 100 columns and rows: what is drawn within them is in range.
use Rattle.std.proofs.Common.{◌≡◌, ℕ, ◌≤◌, List, [], ◌∷◌, arith, pos, neg_ℤ, refl}
use Rattle.std.proofs.lemmas.Int.{ints}
use Rattle.scm_cells.specs.Clusters.{text_width}
use Rattle.scm_render.specs.Bounds.{Bounds, BoundsInRange}
use Rattle.scm_render.specs.Canvas.{Canvas, with_picture}
use Rattle.scm_render.specs.Drawing.{texts_width}
use Rattle.scm_render.specs.Picture.{Picture}

abbrev pub screen : Bounds
screen = record { left = neg_ℤ (pos 1); right = pos 100; top = pos 0; bottom = pos 100 }

pub screen-in_range : BoundsInRange screen
screen-in_range = record {
  left = record { low = omega (arith, ints); high = omega (arith, ints) };
  right = record { low = omega (arith, ints); high = omega (arith, ints) };
  top = record { low = omega (arith, ints); high = omega (arith, ints) };
  bottom = record { low = omega (arith, ints); high = omega (arith, ints) };
}

-- a text alone
pub one-width : (t : List ℕ) → text_width t ≤ 100 → texts_width (t ∷ []) ≤ 100
unfolding texts_width
one-width t h = omega (arith, h)

-- drawing keeps the sight
pub sight-kept : {K : Type 0} (c : Canvas K) (p : Picture K) → (with_picture c p).sight ≡ c.sight
unfolding with_picture
sight-kept c p = refl
