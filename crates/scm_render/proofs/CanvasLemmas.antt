-- How pictures follow one another on a canvas.
use Rattle.std.specs.Prelude.{◌≡◌, ℕ, List, [], ◌∷◌, ◌++◌, length, set, Option, Some, None, option_map, Result, Ok, Err, OnOk}
use Rattle.std.specs.Option.{is_some}
use Rattle.std.proofs.Common.{false, refl, sym, ap, ◌∙◌, append_assoc, append-nil, set}
use Rattle.scm_cells.specs.declared.rect.Rect.{Rect}
use Rattle.scm_cells.specs.declared.mask.Mask.{Mask}
use Rattle.scm_render.specs.Picture.{Box, Picture, nothing, part, followed_by, covering, box_rect}
use Rattle.scm_render.specs.Around.{around, join, no_rect}
use Rattle.scm_render.specs.Canvas.{Canvas, kept, kept_area, paint_rows, with_mask, with_picture}
use Rattle.scm_cells.specs.Rect.{RectInRange}
use Rattle.scm_render.proofs.AroundLemmas.{around-join, around-append, around-one, around-none, RectInRange-join}
use Rattle.scm_render.proofs.PaintLemmas.{painted-none, painted-append}

module _ {K : Type 0} where
  pub canvas-same : (a b : Canvas K) → a.sight ≡ b.sight → a.rows ≡ b.rows → a.area ≡ b.area → a.boxes ≡ b.boxes → a ≡ b
  canvas-same a b p w q r =
      let e : ◌≡◌ {A = Canvas K} (record { sight = a.sight; rows = a.rows; area = a.area; boxes = a.boxes }) (record { sight = b.sight; rows = b.rows; area = b.area; boxes = b.boxes }) = cc in e

  kept-none : (bs : Option (List (Box K))) → kept bs [] ≡ bs
  kept-none None = refl
  kept-none (Some bs) = ap Some (append-nil bs)

  kept-then : (bs : Option (List (Box K))) (cs ds : List (Box K)) → kept (kept bs cs) ds ≡ kept bs (cs ++ ds)
  kept-then None cs ds = refl
  kept-then (Some bs) cs ds = ap Some (append_assoc bs cs ds)

  kept_area-none : (bs : Option (List (Box K))) (a : Rect) → kept_area bs a [] ≡ a
  kept_area-none None a = refl
  kept_area-none (Some bs) a = around-none a

  kept_area-then : (bs : Option (List (Box K))) (cs : List (Box K)) (a : Rect) (xs ys : List Rect) → kept_area (kept bs cs) (kept_area bs a xs) ys ≡ kept_area bs a (xs ++ ys)
  kept_area-then None cs a xs ys = refl
  kept_area-then (Some bs) cs a xs ys = sym (around-append a xs ys)

  pub kept_area-kept : (bs : Option (List (Box K))) (n : ℕ) (cs : List (Box K)) (a : Rect) (xs : List Rect) → Some n ≡ option_map length bs → kept_area (kept bs cs) a xs ≡ around a xs
  kept_area-kept None n cs a xs e = absurd (cc e)
  kept_area-kept (Some bs) n cs a xs e = refl

  pub RectInRange-kept : (bs : Option (List (Box K))) (a r : Rect) → RectInRange a → RectInRange r → RectInRange (kept_area bs a (r ∷ []))
  RectInRange-kept None a r p q = p
  RectInRange-kept (Some bs) a r p q = rw (around-one a r) (RectInRange-join a r p q)

  pub with_picture-sight : (c : Canvas K) (m : Picture K) → (with_picture c m).sight ≡ c.sight
  unfolding with_picture
  with_picture-sight c m = refl

  pub with_picture-rows : (c : Canvas K) (m : Picture K) → (with_picture c m).rows ≡ paint_rows c.sight.rect m.puts c.sight.rect.y c.rows
  unfolding with_picture
  with_picture-rows c m = refl

  pub with_picture-boxes : (c : Canvas K) (m : Picture K) → (with_picture c m).boxes ≡ kept c.boxes m.boxes
  unfolding with_picture
  with_picture-boxes c m = refl

  -- a picture without a box
  pub with_picture-plain : (c d : Canvas K) (m : Picture K) → d.sight ≡ c.sight → d.rows ≡ paint_rows c.sight.rect m.puts c.sight.rect.y c.rows → d.area ≡ kept_area c.boxes c.area m.areas → d.boxes ≡ c.boxes → m.boxes ≡ []
      → d ≡ with_picture c m
  unfolding with_picture
  with_picture-plain c d m s w a b none = canvas-same d (with_picture c m) s w a (b ∙ sym (kept-none c.boxes) ∙ ap (kept c.boxes) (sym none))

  pub with_picture-nothing : (c : Canvas K) → with_picture c nothing ≡ c
  unfolding with_picture nothing
  with_picture-nothing c = canvas-same (with_picture c nothing) c refl (painted-none c.sight.rect c.sight.rect.y c.rows) (kept_area-none c.boxes c.area) (kept-none c.boxes)

  -- one picture after another
  pub with_picture-then : (c : Canvas K) (a b : Picture K) → with_picture (with_picture c a) b ≡ with_picture c (followed_by a b)
  unfolding with_picture followed_by
  with_picture-then c a b =
      canvas-same (with_picture (with_picture c a) b) (with_picture c (followed_by a b))
      refl
      (sym (painted-append c.sight.rect a.puts b.puts c.sight.rect.y c.rows))
      (kept_area-then c.boxes a.boxes c.area a.areas b.areas)
      (kept-then c.boxes a.boxes b.boxes)

  -- a canvas that got two pictures in turn
  pub with_picture-twice : (c d e : Canvas K) (a b : Picture K) → d ≡ with_picture c a → e ≡ with_picture d b → e ≡ with_picture c (followed_by a b)
  with_picture-twice c d e a b p q = q ∙ ap (λ v. with_picture v b) p ∙ with_picture-then c a b

  -- a mask is set, a picture is made under it, and the mask before is put back
  pub with_picture-masked : (c d e f : Canvas K) (mask : Mask) (m : Picture K) → d ≡ with_mask (Some mask) c → e ≡ with_picture d m → f ≡ with_mask c.sight.mask e → f ≡ with_picture c m
  unfolding with_picture
  with_picture-masked c d e f mask m p q r = r ∙ ap (with_mask c.sight.mask) (q ∙ ap (λ v. with_picture v m) p)

  pub with_picture-covering : (c d : Canvas K) (r : Rect) → d.sight ≡ c.sight → d.rows ≡ c.rows → d.area ≡ kept_area c.boxes c.area (r ∷ []) → d.boxes ≡ c.boxes → d ≡ with_picture c (covering r)
  unfolding covering
  with_picture-covering c d r s w a b =
      with_picture-plain c d (covering r) s (w ∙ sym (painted-none c.sight.rect c.sight.rect.y c.rows)) a b refl

  -- a box is noted
  pub with_picture-noted : (c d : Canvas K) (id : K) (r own : Rect) → d.sight ≡ c.sight → d.rows ≡ c.rows → d.area ≡ kept_area c.boxes c.area (r ∷ []) → own ≡ join no_rect r → d.boxes ≡ kept c.boxes ((id, own) ∷ [])
      → d ≡ with_picture c (part id (covering r))
  unfolding with_picture part covering box_rect
  with_picture-noted c d id r own s w a o b =
      canvas-same d (with_picture c (part id (covering r))) s (w ∙ sym (painted-none c.sight.rect c.sight.rect.y c.rows)) a
      (b ∙ ap (λ v. kept c.boxes ((id, v) ∷ [])) (o ∙ sym (around-one no_rect r)))

  -- the place that a box took is filled
  set-place : (bs cs : List (Box K)) (b new : Box K) → set (bs ++ b ∷ cs) (length bs) new ≡ bs ++ new ∷ cs
  set-place [] cs b new = refl
  set-place (a ∷ bs) cs b new = ap (λ w. a ∷ w) (set-place bs cs b new)

  part-made : (c d e : Canvas K) (id : K) (m : Picture K) (n : ℕ) (bs : Option (List (Box K))) → c.boxes ≡ bs → Some n ≡ option_map length bs → e.sight ≡ d.sight → e.rows ≡ d.rows → e.area ≡ join c.area d.area
      → e.boxes ≡ option_map (λ v. set v n (id, d.area)) d.boxes
      → d ≡ with_picture (record { sight = c.sight; rows = c.rows; area = no_rect; boxes = kept bs ((id, no_rect) ∷ []) }) m
      → e ≡ with_picture c (part id m)
  unfolding with_picture part box_rect
  part-made c d e id m n None k l s w a b h = absurd (cc l)
  part-made c d e id m n (Some bs) k l s w a b h =
      let taken : Box K = (id, no_rect) in
      let new : Box K = (id, around no_rect m.areas) in
      let last : n ≡ length bs = cc l in
      canvas-same e (with_picture c (part id m))
      (s ∙ ap (λ v. v.sight) h)
      (w ∙ ap (λ v. v.rows) h)
      (a ∙ ap (λ v. join c.area v.area) h ∙ sym (around-join c.area m.areas) ∙ ap (λ v. kept_area v c.area m.areas) (sym k))
      (b ∙ ap (λ v. option_map (λ w. set w n (id, v.area)) v.boxes) h
      ∙ ap Some (ap (λ i. set ((bs ++ taken ∷ []) ++ m.boxes) i new) last ∙ ap (λ v. set v (length bs) new) (append_assoc bs (taken ∷ []) m.boxes) ∙ set-place bs m.boxes taken new)
      ∙ ap (λ v. kept v (new ∷ m.boxes)) (sym k))

  -- the canvas after a part was drawn, where boxes are kept: c took the part's place among the boxes and has no area, d is that with the part's picture, and e has the part's box in its place and d's area joined to c's
  pub with_picture-part : (c d e : Canvas K) (id : K) (m : Picture K) (n : ℕ) → Some n ≡ option_map length c.boxes → e.sight ≡ d.sight → e.rows ≡ d.rows → e.area ≡ join c.area d.area
      → e.boxes ≡ option_map (λ v. set v n (id, d.area)) d.boxes
      → d ≡ with_picture (record { sight = c.sight; rows = c.rows; area = no_rect; boxes = kept c.boxes ((id, no_rect) ∷ []) }) m
      → e ≡ with_picture c (part id m)
  with_picture-part c d e id m n l s w a b h = part-made c d e id m n c.boxes refl l s w a b h

  -- where no boxes are kept, a part leaves what its picture leaves
  pub with_picture-unkept : (c : Canvas K) (id : K) (m : Picture K) → c.boxes ≡ None → with_picture c m ≡ with_picture c (part id m)
  unfolding with_picture part
  with_picture-unkept c id m none = rw none refl

  pub drawn-unkept : {A E : Type 0} (r : Result A E) (c d : Canvas K) (id : K) (m : Picture K) → c.boxes ≡ None → OnOk r (d ≡ with_picture c m) → OnOk r (d ≡ with_picture c (part id m))
  drawn-unkept (Ok v) c d id m none p = p ∙ with_picture-unkept c id m none
  drawn-unkept (Err e) c d id m none p = tt

  pub not-kept : (bs : Option (List (Box K))) → is_some bs ≡ false → bs ≡ None
  not-kept None e = refl
  not-kept (Some bs) e = absurd (cc e)

  pub none-counted : (bs : Option (List (Box K))) → None ≡ option_map length bs → bs ≡ None
  none-counted None e = refl
  none-counted (Some bs) e = absurd (cc e)

  pub is_some-counted : (bs : Option (List (Box K))) → is_some (option_map length bs) ≡ is_some bs
  is_some-counted None = refl
  is_some-counted (Some bs) = refl

  -- a part that is drawn with boxes of its own, in a viewport that keeps none
  pub with_picture-measured : (c d e : Canvas K) (id : K) (m : Picture K) → c.boxes ≡ None → e.sight ≡ d.sight → e.rows ≡ d.rows → e.area ≡ c.area → e.boxes ≡ None
      → d ≡ with_picture (record { sight = c.sight; rows = c.rows; area = no_rect; boxes = Some [] }) m → e ≡ with_picture c (part id m)
  unfolding with_picture part
  with_picture-measured c d e id m none s w a b h =
      canvas-same e (with_picture c (part id m)) (s ∙ ap (λ v. v.sight) h) (w ∙ ap (λ v. v.rows) h) (rw none a) (rw none b)

  -- a picture that changes no row is passed over where no boxes are kept
  pub with_picture-passed : (c : Canvas K) (m : Picture K) → c.boxes ≡ None → paint_rows c.sight.rect m.puts c.sight.rect.y c.rows ≡ c.rows → with_picture c m ≡ c
  unfolding with_picture
  with_picture-passed c m none same = canvas-same (with_picture c m) c refl same (rw none refl) (rw none refl)

  -- what a part leaves on the rows, and among the boxes
  pub part-rows : (c d : Canvas K) (id : K) (m : Picture K) → d ≡ with_picture c (part id m) → d.rows ≡ paint_rows c.sight.rect m.puts c.sight.rect.y c.rows
  unfolding part
  part-rows c d id m h = ap (λ v. v.rows) h ∙ with_picture-rows c (part id m)

  pub part-boxes : (c d : Canvas K) (id : K) (m : Picture K) → d ≡ with_picture c (part id m) → c.boxes ≡ Some [] → d.boxes ≡ Some (part id m).boxes
  part-boxes c d id m h none = ap (λ v. v.boxes) h ∙ with_picture-boxes c (part id m) ∙ ap (λ w. kept w (part id m).boxes) none
