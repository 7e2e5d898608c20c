-- A component's picture, call by call: what each call draws is given in the sight, which calls keep.
use Rattle.std.proofs.Common.{◌≡◌, ◌∙◌, sym, ap, refl, arith, FitsSigned, w64}
use Rattle.std.specs.Prelude.{ℤ, List, ℕ, Some}
use Rattle.scm_cells.specs.Rect.{InRange}
use Rattle.scm_cells.specs.declared.mask.Mask.{Mask}
use Rattle.scm_cells.proofs.RectLemmas.{places}
use Rattle.scm_render.specs.Picture.{Picture, PictureInRange, nothing, followed_by}
use Rattle.scm_render.specs.Canvas.{Sight, Canvas, with_mask, with_picture, under}
use Rattle.scm_render.specs.Drawing.{span_picture, line_picture, text_picture}
use Rattle.scm_render.specs.Left.{IsLeft}
use Rattle.scm_render.proofs.PictureLemmas.{PictureInRange-left, PictureInRange-right}
use Rattle.scm_render.proofs.CanvasLemmas.{with_picture-sight, with_picture-nothing, with_picture-then, with_picture-twice, with_picture-masked}

-- a place in range, as a number
pub InRange-fits : (z : ℤ) → InRange z → FitsSigned w64 z
InRange-fits z r = omega (arith, places)

module _ {K : Type 0} where
  -- drawing keeps the sight
  pub sight-after : (c d : Canvas K) (p : Picture K) → d ≡ with_picture c p → d.sight ≡ c.sight
  sight-after c d p h = ap (λ v. v.sight) h ∙ with_picture-sight c p

  -- ---- calls in turn

  -- one call, then the rest
  pub step : (c d e : Canvas K) (a : Picture K) (b : Sight → Picture K) → d ≡ with_picture c a → e ≡ with_picture d (b d.sight) → e ≡ with_picture c (followed_by a (b c.sight))
  step c d e a b p q = with_picture-twice c d e a (b c.sight) p (q ∙ ap (λ s. with_picture d (b s)) (sight-after c d a p))

  -- the rest is in range
  pub rest : (c d : Canvas K) (a : Picture K) (b : Sight → Picture K) → d ≡ with_picture c a → PictureInRange (followed_by a (b c.sight)) → PictureInRange (b d.sight)
  rest c d a b p r = rw (sight-after c d a p) (PictureInRange-right a (b c.sight) r)

  pub three : (c d e f : Canvas K) (a : Picture K) (b g : Sight → Picture K) → d ≡ with_picture c a → e ≡ with_picture d (b d.sight) → f ≡ with_picture e (g e.sight)
      → f ≡ with_picture c (followed_by a (followed_by (b c.sight) (g c.sight)))
  three c d e f a b g p q r = step c d f a (λ s. followed_by (b s) (g s)) p (step d e f (b d.sight) g q r)

  -- the second of three is in range, and the third
  pub second : (c d : Canvas K) (a : Picture K) (b g : Sight → Picture K) → d ≡ with_picture c a → PictureInRange (followed_by a (followed_by (b c.sight) (g c.sight))) → PictureInRange (b d.sight)
  second c d a b g p r = PictureInRange-left _ _ (rest c d a (λ s. followed_by (b s) (g s)) p r)

  pub third : (c d e : Canvas K) (a : Picture K) (b g : Sight → Picture K) → d ≡ with_picture c a → e ≡ with_picture d (b d.sight)
      → PictureInRange (followed_by a (followed_by (b c.sight) (g c.sight))) → PictureInRange (g e.sight)
  third c d e a b g p q r = rest d e (b d.sight) g q (rest c d a (λ s. followed_by (b s) (g s)) p r)

  pub four : (c d e f g : Canvas K) (a : Picture K) (b h i : Sight → Picture K) → d ≡ with_picture c a → e ≡ with_picture d (b d.sight) → f ≡ with_picture e (h e.sight) → g ≡ with_picture f (i f.sight)
      → g ≡ with_picture c (followed_by a (followed_by (b c.sight) (followed_by (h c.sight) (i c.sight))))
  four c d e f g a b h i p q r t = step c d g a (λ s. followed_by (b s) (followed_by (h s) (i s))) p (three d e f g (b d.sight) h i q r t)

  -- the last three of four are in range
  pub second-of-four : (c d : Canvas K) (a : Picture K) (b h i : Sight → Picture K) → d ≡ with_picture c a
      → PictureInRange (followed_by a (followed_by (b c.sight) (followed_by (h c.sight) (i c.sight)))) → PictureInRange (followed_by (b d.sight) (followed_by (h d.sight) (i d.sight)))
  second-of-four c d a b h i p r = rest c d a (λ s. followed_by (b s) (followed_by (h s) (i s))) p r

  -- ---- under a mask

  -- a mask is set, a part is drawn under it, and the mask before is put back
  pub masked : (c d e f : Canvas K) (mask : Mask) (b : Sight → Picture K) → d ≡ with_mask (Some mask) c → e ≡ with_picture d (b d.sight) → f ≡ with_mask c.sight.mask e
      → f ≡ with_picture c (b (under mask c.sight))
  masked c d e f mask b p q r = with_picture-masked c d e f mask (b (under mask c.sight)) p (q ∙ ap (λ s. with_picture d (b s)) (ap (λ v. v.sight) p)) r

  -- ---- a loop of parts

  pub left-first : (c : Canvas K) (whole : Picture K) → PictureInRange whole → IsLeft c c whole whole
  left-first c whole r = record { sight = refl; in_range = r; drawn = refl }

  -- what is left is a part and more: the part is in range
  pub left-part : (c d : Canvas K) (a : Sight → Picture K) (left more whole : Picture K) → left ≡ followed_by (a c.sight) more → IsLeft c d left whole → PictureInRange (a d.sight)
  left-part c d a left more whole e h = rw h.sight (PictureInRange-left (a c.sight) more (rw e at h.in_range))

  -- once it is drawn, more is left
  pub left-more : (c d e : Canvas K) (a : Sight → Picture K) (left more whole : Picture K) → left ≡ followed_by (a c.sight) more → IsLeft c d left whole → e ≡ with_picture d (a d.sight) → IsLeft c e more whole
  left-more c d e a left more whole k h p =
      let q : e ≡ with_picture d (a c.sight) = p ∙ ap (λ s. with_picture d (a s)) h.sight in
      record {
        sight = sight-after d e (a d.sight) p ∙ h.sight;
        in_range = PictureInRange-right (a c.sight) more (rw k at h.in_range);
        drawn = ap (λ v. with_picture v more) q ∙ with_picture-then d (a c.sight) more ∙ ap (with_picture d) (sym k) ∙ h.drawn;
      }

  pub left-none : (c d : Canvas K) (left whole : Picture K) → left ≡ nothing → IsLeft c d left whole → d ≡ with_picture c whole
  left-none c d left whole e h = sym (with_picture-nothing d) ∙ ap (with_picture d) (sym e) ∙ h.drawn

  -- ---- places of calls that are in range

  pub span-place : (s : Sight) (x y : ℤ) (t : List ℕ) → PictureInRange {K = K} (span_picture s x y t) → (InRange x) × (InRange y)
  unfolding span_picture
  span-place s x y t r = (r.areas.0.x, r.areas.0.y)

  pub text-place : (s : Sight) (x y : ℤ) (ts : List (List ℕ)) → PictureInRange {K = K} (text_picture s x y ts) → (InRange x) × (InRange y)
  unfolding text_picture line_picture followed_by
  text-place s x y ts r = (r.areas.0.x, r.areas.0.y)
