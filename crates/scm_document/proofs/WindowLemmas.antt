-- Painting all that is shown on a cleared screen leaves the window.
use Rattle.std.proofs.Common.{◌≡◌, ℕ, ◌+◌, ◌-◌, refl, ap, arith}
use Rattle.std.specs.Prelude.{pos, ◌+ℤ◌, ◌-ℤ◌}
use Rattle.std.proofs.lemmas.Int.{ints}
use Rattle.std.specs.Int.{int_min, int_max}
use Rattle.scm_cells.specs.Rect.{or_zero, rect_between}
use Rattle.scm_cells.specs.declared.rect.Rect.{Rect}
use Rattle.scm_cells.proofs.RectLemmas.{places}
use Rattle.scm_render.specs.Canvas.{Sight, under}
use Rattle.scm_render.specs.Drawing.{reach}
use Rattle.scm_document.specs.Pictures.{mask_row}
use Rattle.scm_widgets.specs.Screens.{sight}
use Rattle.scm_document.specs.OpenSights.{IsOpen}
use Rattle.scm_document.proofs.AppShapeLemmas.{below_bar}

-- ---- what is drawn

-- the document as the inline view draws it, on the rows below the menu bar
abbrev pub body_sight : ℕ → ℕ → ℕ → Sight
body_sight w h s = under (below_bar w s) (sight w h s)

-- ---- the rows below the menu bar

left_end : (w : ℕ) → int_max (pos 0) (pos 0) ≡ pos 0
left_end w = omega (arith, places)

columns_seen : (w : ℕ) → or_zero (int_min (pos 0 +ℤ pos w) (pos 0 +ℤ pos w) -ℤ int_max (pos 0) (pos 0)) ≡ w
columns_seen w = omega (arith, places)

first_seen : (s : ℕ) → int_max (pos s +ℤ pos 1) (pos s) ≡ pos (s + 1)
first_seen s = omega (arith, places)

rows_seen : (s h : ℕ) → or_zero (int_min ((pos s +ℤ pos 1) +ℤ pos (or_zero ((pos s +ℤ pos h) -ℤ (pos s +ℤ pos 1)))) (pos s +ℤ pos h) -ℤ int_max (pos s +ℤ pos 1) (pos s)) ≡ h - 1
rows_seen s h = omega (arith, places)

pub reach-below : (w h s : ℕ) → reach (body_sight w h s) ≡ record { x = pos 0; y = pos (s + 1); width = w; height = h - 1 }
unfolding reach rect_between
reach-below w h s = λ i. record { x = left_end w i; y = first_seen s i; width = columns_seen w i; height = rows_seen s h i }

pub open-below : (w h s : ℕ) → IsOpen (body_sight w h s) w
open-below w h s = record { left = refl; width = refl; low = ap (λ (r : Rect). r.x) (reach-below w h s); columns = ap (λ (r : Rect). r.width) (reach-below w h s) }

pub row-below : (w h s : ℕ) → mask_row (body_sight w h s) ≡ pos (s + 1)
row-below w h s = omega (arith, ints)
