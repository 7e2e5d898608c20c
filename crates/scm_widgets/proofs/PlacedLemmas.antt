-- Buttons in their places: those that are left to draw, and that they are in range in each sight.
use Rattle.std.proofs.Common.{◌≡◌, ℕ, ◌+◌, ◌<◌, ◌≤◌, ℤ, List, [], ◌∷◌, ◌++◌, length, drop, get_or, refl, ap, add-one, drop-cons}
use Rattle.std.proofs.lemmas.List.{drop_all}
use Rattle.scm_cells.specs.Rect.{RectInRange}
use Rattle.scm_render.specs.Canvas.{Sight}
use Rattle.scm_render.specs.Drawing.{row_rect, span_picture}
use Rattle.scm_render.specs.Picture.{PictureInRange, nothing, followed_by, part}
use Rattle.scm_render.proofs.PictureLemmas.{PictureInRange-nothing, PictureInRange-followed, PictureInRange-left, PictureInRange-right}
use Rattle.scm_widgets.specs.declared.button.Button.{Button}
use Rattle.scm_widgets.specs.declared.placed_button.PlacedButton.{PlacedButton}
use Rattle.scm_widgets.specs.Pictures.{button_picture}
use Rattle.scm_widgets.specs.declared.ids.ComponentId.{ComponentId}
use Rattle.scm_widgets.specs.Buttons.{button_part, button_width, placed_button, placed_picture, ArePlacedInRange}
use Rattle.scm_widgets.specs.OverlayRects.{button_rects}

module _ {K : Type 0} where
  pub placed-more : (ps : List (PlacedButton K)) (i : ℕ) (d : PlacedButton K) (s : Sight) → i < length ps
      → placed_picture s (drop i ps)
      ≡ followed_by (button_part (get_or ps i d).button s (get_or ps i d).rect.x (get_or ps i d).rect.y) (placed_picture s (drop (i + 1) ps))
  unfolding placed_picture
  placed-more ps i d s h = rw (add-one, drop-cons ps i d h) refl

  pub placed-end : (ps : List (PlacedButton K)) (i : ℕ) (s : Sight) → length ps ≤ i → placed_picture s (drop i ps) ≡ nothing
  unfolding placed_picture
  placed-end ps i s h = rw (drop_all i ps h) refl

  button-any : (b : Button K) (s t : Sight) (x y : ℤ) → PictureInRange (button_part b s x y) → PictureInRange (button_part b t x y)
  unfolding part button_picture span_picture
  button-any b s t x y r = record { areas = r.areas }

  pub placed-any : (s : Sight) (ps : List (PlacedButton K)) → PictureInRange (placed_picture s ps) → ArePlacedInRange ps
  unfolding placed_picture
  placed-any s [] r = λ t. PictureInRange-nothing
  placed-any s (p ∷ ps) r = λ t.
      PictureInRange-followed _ _ (button-any p.button s t p.rect.x p.rect.y (PictureInRange-left _ _ r)) (placed-any s ps (PictureInRange-right _ _ r) t)

  pub button-rect : (b : Button K) (s : Sight) (x y : ℤ) → PictureInRange (button_part b s x y) → RectInRange (row_rect x y (button_width b))
  unfolding part button_picture span_picture button_width
  button-rect b s x y r = r.areas.0

  -- the first of several buttons is in range, and so are the others
  pub first-rect : (b : Button K) (x y : ℤ) (s : Sight) (ps : List (PlacedButton K)) → PictureInRange (placed_picture s (placed_button x y b ∷ ps)) → RectInRange (row_rect x y (button_width b))
  unfolding placed_picture
  first-rect b x y s ps r = button-rect b s x y (PictureInRange-left _ _ r)

  pub others-in : (p : PlacedButton K) (s : Sight) (ps : List (PlacedButton K)) → PictureInRange (placed_picture s (p ∷ ps)) → PictureInRange (placed_picture s ps)
  unfolding placed_picture
  others-in p s ps r = PictureInRange-right _ _ r

-- rectangles of buttons after one another
pub rects-append : (ps qs : List (PlacedButton ComponentId)) → button_rects (ps ++ qs) ≡ button_rects ps ++ button_rects qs
rects-append [] qs = refl
rects-append (p ∷ ps) qs = ap (λ rs. record { id = p.button.id; rect = p.rect } ∷ rs) (rects-append ps qs)
