-- What each drawing call draws within bounds, and that it is then in range.
use Rattle.std.proofs.Common.{ℕ, Bool, true, false, List, [], ◌∷◌, ◌++◌, arith}
use Rattle.std.specs.Prelude.{ℤ, pos, ◌+ℤ◌, ◌-ℤ◌, ◌≤ℤ◌, ◌<ℤ◌, int_lt, if◌then◌else◌}
use Rattle.std.specs.Int.{int_min, int_max}
use Rattle.scm_cells.specs.Rect.{RectInRange, end_x_of, or_zero, rect_between}
use Rattle.scm_cells.specs.Clusters.{text_width}
use Rattle.scm_cells.specs.Row.{ellipsis}
use Rattle.scm_cells.specs.declared.rect.Rect.{Rect}
use Rattle.scm_cells.specs.declared.mask.Mask.{Mask}
use Rattle.scm_cells.proofs.RectLemmas.{places}
use Rattle.scm_cells.proofs.WidthLemmas.{width-ellipsis}
use Rattle.scm_render.specs.Around.{AllRectsInRange}
use Rattle.scm_render.specs.Picture.{Picture, PictureInRange, nothing, followed_by, covering, part}
use Rattle.scm_render.specs.Canvas.{Sight, under}
use Rattle.scm_render.specs.Drawing.{reach, row_rect, texts_width, span_picture, line_picture, text_picture, blank_picture, frame_picture}
use Rattle.scm_render.specs.Bounds.{Bounds, BoundsInRange, SightWithin, RectWithin, RectsWithin, PictureWithin}

-- ---- in range

pub RectInRange-within : (b : Bounds) (r : Rect) → BoundsInRange b → RectWithin b r → RectInRange r
RectInRange-within b r i w = record {
  x = record { low = omega (arith, places, i.left, w.x); high = omega (arith, places, i.right, w.end_x) };
  end_x = record { low = omega (arith, places, i.left, w.x); high = omega (arith, places, i.right, w.end_x) };
  y = record { low = omega (arith, places, i.top, w.y); high = omega (arith, places, i.bottom, w.end_y) };
  end_y = record { low = omega (arith, places, i.top, w.y); high = omega (arith, places, i.bottom, w.end_y) };
}

AllRectsInRange-within : (b : Bounds) (rs : List Rect) → BoundsInRange b → RectsWithin b rs → AllRectsInRange rs
AllRectsInRange-within b [] i w = tt
AllRectsInRange-within b (r ∷ rs) i w = (RectInRange-within b r i w.0, AllRectsInRange-within b rs i w.1)

pub PictureInRange-within : {K : Type 0} (b : Bounds) (p : Picture K) → BoundsInRange b → PictureWithin b p → PictureInRange p
PictureInRange-within b p i w = record { areas = AllRectsInRange-within b p.areas i w.areas }

-- ---- rectangles

-- a row of `n` columns
pub row-within : (b : Bounds) (x y : ℤ) (n : ℕ) → b.left ≤ℤ x → (x +ℤ pos n) ≤ℤ b.right → b.top ≤ℤ y → y <ℤ b.bottom → RectWithin b (row_rect x y n)
row-within b x y n p q t e = record { x = p; end_x = q; y = t; end_y = omega (arith, places) }

RectsWithin-append : (b : Bounds) (xs ys : List Rect) → RectsWithin b xs → RectsWithin b ys → RectsWithin b (xs ++ ys)
RectsWithin-append b [] ys p q = q
RectsWithin-append b (x ∷ xs) ys p q = (p.0, RectsWithin-append b xs ys p.1 q)

-- ---- how far drawing reaches

-- the reach begins past the bounds' first column and ends within them
pub record ReachWithin (b : Bounds) (s : Sight) : Type 0 where
  pub x : b.left <ℤ (reach s).x
  pub end_x : end_x_of (reach s) ≤ℤ b.right

reach-begins : (a b left : ℤ) → left <ℤ b → left <ℤ int_max a b
reach-begins a b left h = omega (arith, places)

reach-ends : (a b e f right : ℤ) → b ≤ℤ right → a ≤ℤ right → f ≤ℤ right → (int_max a b +ℤ pos (or_zero (int_min e f -ℤ int_max a b))) ≤ℤ right
reach-ends a b e f right p q r = omega (arith, places)

pub reach-within : (b : Bounds) (s : Sight) → SightWithin b s → ReachWithin b s
unfolding reach rect_between
reach-within b s w =
    let begins : s.rect.x ≤ℤ b.right = omega (arith, places, w.end_x) in
    record { x = reach-begins _ s.rect.x b.left w.x; end_x = reach-ends _ s.rect.x _ (end_x_of s.rect) b.right begins w.mask_x w.end_x }

-- under a mask that begins within the bounds
pub SightWithin-under : (b : Bounds) (m : Mask) (s : Sight) → SightWithin b s → m.x ≤ℤ b.right → SightWithin b (under m s)
SightWithin-under b m s w h = record { x = w.x; end_x = w.end_x; mask_x = h }

-- ---- pictures

module _ {K : Type 0} where
  pub PictureWithin-nothing : (b : Bounds) → PictureWithin {K = K} b nothing
  unfolding nothing
  PictureWithin-nothing b = record { areas = tt }

  pub PictureWithin-followed : (b : Bounds) (p q : Picture K) → PictureWithin b p → PictureWithin b q → PictureWithin b (followed_by p q)
  unfolding followed_by
  PictureWithin-followed b p q h k = record { areas = RectsWithin-append b p.areas q.areas h.areas k.areas }

  pub PictureWithin-part : (b : Bounds) (id : K) (p : Picture K) → PictureWithin b p → PictureWithin b (part id p)
  unfolding part
  PictureWithin-part b id p h = record { areas = h.areas }

  pub PictureWithin-if : (b : Bounds) (c : Bool) (p q : Picture K) → PictureWithin b p → PictureWithin b q → PictureWithin b (if c then p else q)
  PictureWithin-if b true p q h k = h
  PictureWithin-if b false p q h k = k

  pub covering-within : (b : Bounds) (r : Rect) → RectWithin b r → PictureWithin {K = K} b (covering r)
  unfolding covering
  covering-within b r h = record { areas = (h, tt) }

  pub span-within : (b : Bounds) (s : Sight) (x y : ℤ) (t : List ℕ) → b.left ≤ℤ x → (x +ℤ pos (text_width t)) ≤ℤ b.right → b.top ≤ℤ y → y <ℤ b.bottom → PictureWithin {K = K} b (span_picture s x y t)
  unfolding span_picture
  span-within b s x y t p q u v = record { areas = (row-within b x y (text_width t) p q u v, tt) }

  pub line-within : (b : Bounds) (s : Sight) (x y : ℤ) (ts : List (List ℕ)) → b.left ≤ℤ x → (x +ℤ pos (texts_width ts)) ≤ℤ b.right → b.top ≤ℤ y → y <ℤ b.bottom → PictureWithin {K = K} b (line_picture s x y ts)
  unfolding line_picture
  line-within b s x y ts p q u v = record { areas = (row-within b x y (texts_width ts) p q u v, tt) }

  -- the ellipsis is in the last visible column
  ellipsis-within : (b : Bounds) (s : Sight) (y : ℤ) → SightWithin b s → b.top ≤ℤ y → y <ℤ b.bottom → PictureWithin {K = K} b (span_picture s (end_x_of (reach s) -ℤ pos 1) y ellipsis)
  ellipsis-within b s y w u v =
      let r = reach-within b s w in
      span-within b s (end_x_of (reach s) -ℤ pos 1) y ellipsis (omega (arith, places, r.x)) (omega (arith, places, r.end_x, width-ellipsis)) u v

  pub text-within : (b : Bounds) (s : Sight) (x y : ℤ) (ts : List (List ℕ)) → SightWithin b s → b.left ≤ℤ x → (x +ℤ pos (texts_width ts)) ≤ℤ b.right → b.top ≤ℤ y → y <ℤ b.bottom
      → PictureWithin {K = K} b (text_picture s x y ts)
  unfolding text_picture
  text-within b s x y ts w p q u v =
      PictureWithin-followed b _ _ (line-within b s x y ts p q u v)
      (PictureWithin-if b (int_lt (end_x_of (reach s)) (x +ℤ pos (texts_width ts))) _ _ (ellipsis-within b s y w u v) (PictureWithin-nothing b))

  pub blank-within : (b : Bounds) (s : Sight) (r : Rect) → RectWithin b r → PictureWithin {K = K} b (blank_picture s r)
  unfolding blank_picture
  blank-within b s r h = record { areas = (h, tt) }

  pub frame-within : (b : Bounds) (s : Sight) (r : Rect) (title : List ℕ) (body : List (List ℕ)) → RectWithin b r → PictureWithin {K = K} b (frame_picture s r title body)
  unfolding frame_picture
  frame-within b s r title body h = record { areas = (h, tt) }
