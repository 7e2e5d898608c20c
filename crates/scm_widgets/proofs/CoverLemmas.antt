-- Texts off the screen: as many columns covered leave the same.
use Rattle.std.proofs.Common.{◌≡◌, ℕ, Option, Some, None, Bool, true, false, List, [], ◌∷◌, length, refl, sym, ap, ◌∙◌, arith, subst, ◌+◌, ◌<◌, ◌^◌}
use Rattle.std.specs.Prelude.{ℤ, pos, ◌+ℤ◌, ◌-ℤ◌, ◌<ℤ◌, ◌≤ℤ◌, int_lt, if◌then◌else◌}
use Rattle.std.proofs.lemmas.Int.{ints}
use Rattle.std.proofs.lemmas.List.Sums.{sum_by-cons}
use Rattle.scm_cells.specs.Clusters.{text_width}
use Rattle.scm_cells.specs.Rect.{RectInRange, end_x_of}
use Rattle.scm_cells.specs.Row.{ellipsis}
use Rattle.scm_cells.proofs.RectLemmas.{places}
use Rattle.scm_cells.specs.declared.rect.Rect.{Rect}
use Rattle.scm_render.specs.Around.{AllRectsInRange}
use Rattle.std.specs.Option.{is_some}
use Rattle.scm_render.specs.Canvas.{Canvas, Sight, kept_area, with_picture}
use Rattle.scm_render.specs.Drawing.{reach, has_row, row_rect, texts_width, line_picture, span_picture, text_picture}
use Rattle.scm_render.specs.Picture.{Box, PictureInRange, nothing, followed_by, covering}
use Rattle.scm_render.proofs.CanvasLemmas.{with_picture-covering, with_picture-twice}
use Rattle.scm_render.proofs.DrawLemmas.{with_picture-short}
use Rattle.scm_render.proofs.PictureLemmas.{PictureInRange-left, PictureInRange-right, RectInRange-covering}
use Rattle.scm_render.proofs.RowLemmas.{one_said}
use Rattle.scm_widgets.specs.declared.ids.ComponentId.{ComponentId}
use Rattle.scm_widgets.specs.Covers.{texts_cover}
use Rattle.scm_widgets.specs.Pictures.{IdPicture}
use Rattle.scm_widgets.proofs.HiddenLemmas.{hidden, no-reach}

-- the columns of a text, and of those after it
texts_width-more : (t : List ℕ) (ts : List (List ℕ)) → texts_width (t ∷ ts) ≡ text_width t + texts_width ts
unfolding texts_width
texts_width-more t ts = sum_by-cons text_width t ts

pub front-width : (n : ℕ) (t : List ℕ) (ts : List (List ℕ)) → n ≡ text_width t → n + texts_width ts ≡ texts_width (t ∷ ts)
front-width n t ts e = let all = texts_width-more t ts in omega (arith, all, e)

-- a row in range has no more columns than the machine can count
pub narrow : (x y : ℤ) (n : ℕ) → RectInRange (row_rect x y n) → n < 2 ^ 64
narrow x y n r = omega (arith, places, r.x, r.end_x)

pub texts_width-one : (t : List ℕ) → texts_width (t ∷ []) ≡ text_width t
unfolding texts_width
texts_width-one t = let e = sum_by-cons text_width t [] in omega (arith, e)

-- ---- what is covered where no boxes are kept

area-unkept : (bs : Option (List (Box ComponentId))) (a r : Rect) → is_some bs ≡ false → a ≡ kept_area bs a (r ∷ [])
area-unkept None a r none = refl
area-unkept (Some bs) a r none = absurd (cc none)

pub covered-unkept : (c : Canvas ComponentId) (r : Rect) → is_some c.boxes ≡ false → c ≡ with_picture c (covering r)
covered-unkept c r none = with_picture-covering c c r refl refl (area-unkept c.boxes c.area r none) refl

-- ---- what is covered, by whether there is an ellipsis

pub texts_cover-first : (s : Sight) (x y : ℤ) (n : ℕ) → PictureInRange (texts_cover s x y n) → RectInRange (row_rect x y n)
unfolding texts_cover
texts_cover-first s x y n r = RectInRange-covering _ (PictureInRange-left _ _ r)

pub texts_cover-long : (s : Sight) (x y : ℤ) (n : ℕ) → end_x_of (reach s) <ℤ (x +ℤ pos n)
    → texts_cover s x y n ≡ followed_by (covering (row_rect x y n)) (covering (row_rect (end_x_of (reach s) -ℤ pos 1) y (text_width ellipsis)))
unfolding texts_cover
texts_cover-long s x y n h = let e : int_lt (end_x_of (reach s)) (x +ℤ pos n) ≡ true = grind (arith, ints) in rw e refl

texts_cover-short : (s : Sight) (x y : ℤ) (n : ℕ) → (x +ℤ pos n) ≤ℤ end_x_of (reach s) → texts_cover s x y n ≡ followed_by (covering (row_rect x y n)) nothing
unfolding texts_cover
texts_cover-short s x y n h = let e : int_lt (end_x_of (reach s)) (x +ℤ pos n) ≡ false = grind (arith, ints) in rw e refl

pub texts_cover-end : (s : Sight) (x y : ℤ) (n : ℕ) → end_x_of (reach s) <ℤ (x +ℤ pos n) → PictureInRange (texts_cover s x y n) → RectInRange (row_rect (end_x_of (reach s) -ℤ pos 1) y (text_width ellipsis))
texts_cover-end s x y n h r = RectInRange-covering _ (PictureInRange-right _ _ (rw (texts_cover-long s x y n h) at r))

pub covered-fitting : (c d : Canvas ComponentId) (x y : ℤ) (n : ℕ) → (x +ℤ pos n) ≤ℤ end_x_of (reach c.sight) → d ≡ with_picture c (covering (row_rect x y n)) → d ≡ with_picture c (texts_cover c.sight x y n)
covered-fitting c d x y n h p = p ∙ sym (with_picture-short c (covering (row_rect x y n))) ∙ ap (with_picture c) (sym (texts_cover-short c.sight x y n h))

pub covered-past : (c d e : Canvas ComponentId) (x y : ℤ) (n : ℕ) → end_x_of (reach c.sight) <ℤ (x +ℤ pos n) → d ≡ with_picture c (covering (row_rect x y n))
    → e ≡ with_picture d (covering (row_rect (end_x_of (reach c.sight) -ℤ pos 1) y (text_width ellipsis))) → e ≡ with_picture c (texts_cover c.sight x y n)
covered-past c d e x y n h p q =
    let a : IdPicture = covering (row_rect x y n) in
    let b : IdPicture = covering (row_rect (end_x_of (reach c.sight) -ℤ pos 1) y (text_width ellipsis)) in
    with_picture-twice c d e a b p q ∙ ap (with_picture c) (sym (texts_cover-long c.sight x y n h))

-- ---- texts of as many columns

areas-by : (b : Bool) (s : Sight) (x y end : ℤ) (ts : List (List ℕ))
    → (followed_by {K = ComponentId} (covering (row_rect x y (texts_width ts))) (if b then covering (row_rect end y (text_width ellipsis)) else nothing)).areas ≡ (followed_by {K = ComponentId} (line_picture s x y ts) (if b then span_picture s end y ellipsis else nothing)).areas
unfolding followed_by covering nothing line_picture span_picture
areas-by true s x y end ts = refl
areas-by false s x y end ts = refl

boxes-by : (b : Bool) (s : Sight) (x y end : ℤ) (ts : List (List ℕ))
    → (followed_by {K = ComponentId} (covering (row_rect x y (texts_width ts))) (if b then covering (row_rect end y (text_width ellipsis)) else nothing)).boxes ≡ (followed_by {K = ComponentId} (line_picture s x y ts) (if b then span_picture s end y ellipsis else nothing)).boxes
unfolding followed_by covering nothing line_picture span_picture
boxes-by true s x y end ts = refl
boxes-by false s x y end ts = refl

puts-by : (b : Bool) (r q : Rect) → (followed_by {K = ComponentId} (covering r) (if b then covering q else nothing)).puts ≡ []
unfolding followed_by covering nothing
puts-by true r q = refl
puts-by false r q = refl

cover-areas : (s : Sight) (x y : ℤ) (ts : List (List ℕ)) → (texts_cover s x y (texts_width ts)).areas ≡ (text_picture {K = ComponentId} s x y ts).areas
unfolding texts_cover text_picture
cover-areas s x y ts = areas-by (int_lt (end_x_of (reach s)) (x +ℤ pos (texts_width ts))) s x y (end_x_of (reach s) -ℤ pos 1) ts

cover-boxes : (s : Sight) (x y : ℤ) (ts : List (List ℕ)) → (texts_cover s x y (texts_width ts)).boxes ≡ (text_picture {K = ComponentId} s x y ts).boxes
unfolding texts_cover text_picture
cover-boxes s x y ts = boxes-by (int_lt (end_x_of (reach s)) (x +ℤ pos (texts_width ts))) s x y (end_x_of (reach s) -ℤ pos 1) ts

cover-puts : (s : Sight) (x y : ℤ) (n : ℕ) → (texts_cover s x y n).puts ≡ []
unfolding texts_cover
cover-puts s x y n = puts-by (int_lt (end_x_of (reach s)) (x +ℤ pos n)) (row_rect x y n) (row_rect (end_x_of (reach s) -ℤ pos 1) y (text_width ellipsis))

pub cover-in-range : (s : Sight) (x y : ℤ) (n : ℕ) (ts : List (List ℕ)) → n ≡ texts_width ts → PictureInRange {K = ComponentId} (text_picture s x y ts) → PictureInRange (texts_cover s x y n)
cover-in-range s x y n ts e r = record { areas = subst AllRectsInRange (sym (ap (λ m. (texts_cover s x y m).areas) e ∙ cover-areas s x y ts)) r.areas }

pub cover-hidden : (c : Canvas ComponentId) (x y : ℤ) (n : ℕ) (ts : List (List ℕ)) → n ≡ texts_width ts → length c.rows ≡ c.sight.rect.height → has_row c.sight.rect y ≡ false
    → with_picture c (texts_cover c.sight x y n) ≡ with_picture c (text_picture c.sight x y ts)
cover-hidden c x y n ts e rows h =
    ap (λ m. with_picture c (texts_cover c.sight x y m)) e
    ∙ hidden c y (text_picture c.sight x y ts) (texts_cover c.sight x y (texts_width ts)) _ rows h (one_said ComponentId c.sight.rect c.sight x y ts (no-reach c.sight.rect (reach c.sight) y h))
    (cover-puts c.sight x y (texts_width ts)) (cover-boxes c.sight x y ts) (cover-areas c.sight x y ts)
