-- The place of a dialog.
use Rattle.std.proofs.Common.{◌≡◌, refl, List, [], ◌∷◌, ℕ, ◌+◌, ◌-◌, ◌<◌, ◌^◌, min, ℤ, pos, ◌+ℤ◌, ◌-ℤ◌, arith, FitsSigned, w64}
use Rattle.scm_cells.specs.Rect.{RectInRange, InRange}
use Rattle.scm_cells.specs.declared.rect.Rect.{Rect}
use Rattle.scm_cells.proofs.RectLemmas.{places}
use Rattle.std.specs.Int.{int_min}
use Rattle.scm_render.specs.Canvas.{Sight}
use Rattle.scm_render.specs.Centring.{centred_rect}
use Rattle.scm_render.specs.Picture.{PictureInRange}
use Rattle.scm_widgets.specs.declared.button.Button.{Button}
use Rattle.scm_widgets.specs.declared.ids.ComponentId.{ComponentId}
use Rattle.scm_widgets.specs.Buttons.{button_width, placed_picture, placed_from_right}
use Rattle.scm_widgets.proofs.PlacedLemmas.{first-rect, others-in}
use Rattle.scm_overlay.specs.OverlayRects.{least_column}

room : (x : ℤ) (n : ℕ) → InRange x → InRange (x +ℤ pos n) → n < 2 ^ 64
room x n a b = omega (arith, places)

one-least : (n w : ℕ) → n < 2 ^ 64 → min (min (w + 2) (2 ^ 64 - 1)) n ≡ min (w + 2) n
one-least n w h = omega (arith, h)

-- a least size held at the greatest number gives the same place
pub centred-held : (r : Rect) (w h : ℕ) → RectInRange r
    → centred_rect r (record { width = min (w + 2) (2 ^ 64 - 1); height = min (h + 2) (2 ^ 64 - 1) }) 60 20 ≡ centred_rect r (record { width = w + 2; height = h + 2 }) 60 20
unfolding centred_rect
centred-held r w h fits = rw (one-least r.width w (room r.x r.width fits.x fits.end_x), one-least r.height h (room r.y r.height fits.y fits.end_y)) refl

-- the place before an end fits
pub last-fits : (z : ℤ) → InRange z → FitsSigned w64 (z -ℤ pos 1)
last-fits z r = omega (arith, places)

-- the place after an end fits
pub next-fits : (z : ℤ) → InRange z → FitsSigned w64 (z +ℤ pos 1)
next-fits z r = omega (arith, places)

pub less-nothing : (z : ℤ) → z -ℤ pos 0 ≡ z
less-nothing z = omega (arith, places)

-- the least column of a dialog is in range
pub least-in : (l end y : ℤ) (s : Sight) (bs : List (Button ComponentId)) → InRange l → PictureInRange (placed_picture s (placed_from_right end y bs)) → InRange (least_column l (placed_from_right end y bs))
unfolding placed_from_right
least-in l end y s [] p r = p
least-in l end y s (b ∷ bs) p r =
    let x = end -ℤ pos (button_width b) in
    let q = (first-rect b x y s _ r).x in
    least-in (int_min l x) (x -ℤ pos 1) y s bs (record { low = omega (arith, places, p.low, q.low); high = omega (arith, places, p.high, q.high) }) (others-in _ s _ r)
