-- Laws for whoever writes or draws a component: how pictures are composed, when they are in range, how counts add up, and which boxes
-- the map of boxes has.
use Rattle.std.specs.Prelude.{◌≡◌, ℕ, ℤ, pos, ◌+ℤ◌, ◌≤ℤ◌, ◌<ℤ◌, List, Bool, Option, Some, option_map}
use Rattle.std.specs.HashMap.{HashMap, get, IsFromIterResult}
use Rattle.scm_cells.specs.Rect.{RectInRange}
use Rattle.scm_cells.specs.Clusters.{text_width}
use Rattle.scm_cells.specs.Counts.{Counts, no_counts, plus, added}
use Rattle.scm_cells.specs.declared.rect.Rect.{Rect}
use Rattle.scm_cells.specs.declared.mask.Mask.{Mask}
use Rattle.scm_render.specs.Picture.{Picture, PictureInRange, Box, nothing, followed_by, covering, part}
use Rattle.scm_render.specs.Canvas.{Sight, Canvas, under, with_mask, with_picture}
use Rattle.scm_render.specs.Drawing.{row_rect, texts_width, span_picture, line_picture, text_picture, blank_picture, frame_picture}
use Rattle.scm_render.specs.Bounds.{Bounds, BoundsInRange, SightWithin, RectWithin, PictureWithin}
use Rattle.scm_render.specs.Places.{with_times}
use Rattle.scm_render.specs.Hits.{box_of}
use Rattle.scm_render.specs.Target.{IsTargetOf, IsLastDrawn}
use Rattle.scm_render.specs.Left.{IsLeft}
use Rattle.scm_render.specs.declared.trace.DrawnRect.{DrawnRect}

-- ---- composition of pictures

-- `step`: one call and then the rest. `masked`: a call under a mask that is set and restored. `begun`, `further`, `done`: a loop that draws
-- part by part.
pub record PicturesAreComposed (K : Type 0) : Type 0 where
  pub step : (c d e : Canvas K) (a : Picture K) (b : Sight → Picture K) → d ≡ with_picture c a → e ≡ with_picture d (b d.sight)
      → e ≡ with_picture c (followed_by a (b c.sight))
  pub masked : (c d e f : Canvas K) (mask : Mask) (b : Sight → Picture K)
      → d ≡ with_mask (Some mask) c → e ≡ with_picture d (b d.sight) → f ≡ with_mask c.sight.mask e
      → f ≡ with_picture c (b (under mask c.sight))
  pub begun : (c : Canvas K) (whole : Picture K) → PictureInRange whole → IsLeft c c whole whole
  pub further : (c d e : Canvas K) (a : Sight → Picture K) (left more whole : Picture K)
      → left ≡ followed_by (a c.sight) more → IsLeft c d left whole → e ≡ with_picture d (a d.sight) → IsLeft c e more whole
  pub done : (c d : Canvas K) (left whole : Picture K) → left ≡ nothing → IsLeft c d left whole → d ≡ with_picture c whole

-- ---- range of pictures

-- `none`, `both`: nothing, and two pictures in turn. `whole`, `inner`: a component and its picture. `first`, `second`, `rest`: the
-- parts of two pictures, also after the first one is drawn. `next`: the next part of a loop.
pub record PartsAreInRange (K : Type 0) : Type 0 where
  pub none : PictureInRange {K = K} nothing
  pub both : (a b : Picture K) → PictureInRange a → PictureInRange b → PictureInRange (followed_by a b)
  pub whole : (id : K) (m : Picture K) → PictureInRange m → PictureInRange (part id m)
  pub inner : (id : K) (m : Picture K) → PictureInRange (part id m) → PictureInRange m
  pub first : (a b : Picture K) → PictureInRange (followed_by a b) → PictureInRange a
  pub second : (a b : Picture K) → PictureInRange (followed_by a b) → PictureInRange b
  pub rest : (c d : Canvas K) (a : Picture K) (b : Sight → Picture K) → d ≡ with_picture c a → PictureInRange (followed_by a (b c.sight))
      → PictureInRange (b d.sight)
  pub next : (c d : Canvas K) (a : Sight → Picture K) (left more whole : Picture K)
      → left ≡ followed_by (a c.sight) more → IsLeft c d left whole → PictureInRange (a d.sight)

-- the rectangle of a draw call whose picture is in range is in range
pub record CallsHaveRects (K : Type 0) : Type 0 where
  pub spans : (s : Sight) (x y : ℤ) (t : List ℕ) → PictureInRange {K = K} (span_picture s x y t) → RectInRange (row_rect x y (text_width t))
  pub lines : (s : Sight) (x y : ℤ) (ts : List (List ℕ)) → PictureInRange {K = K} (line_picture s x y ts)
      → RectInRange (row_rect x y (texts_width ts))
  pub texts : (s : Sight) (x y : ℤ) (ts : List (List ℕ)) → PictureInRange {K = K} (text_picture s x y ts)
      → RectInRange (row_rect x y (texts_width ts))
  pub blanks : (s : Sight) (r : Rect) → PictureInRange {K = K} (blank_picture s r) → RectInRange r
  pub frames : (s : Sight) (r : Rect) (title : List ℕ) (body : List (List ℕ)) → PictureInRange {K = K} (frame_picture s r title body)
      → RectInRange r

-- a picture within bounds that are in range is in range, and the picture of a draw call is within bounds if its place and width are,
-- visible or not
pub record DrawingStaysWithin (K : Type 0) : Type 0 where
  pub in_range : (b : Bounds) (p : Picture K) → BoundsInRange b → PictureWithin b p → PictureInRange p
  pub nothing : (b : Bounds) → PictureWithin {K = K} b nothing
  pub followed : (b : Bounds) (p q : Picture K) → PictureWithin b p → PictureWithin b q → PictureWithin b (followed_by p q)
  pub parts : (b : Bounds) (id : K) (p : Picture K) → PictureWithin b p → PictureWithin b (part id p)
  pub covers : (b : Bounds) (r : Rect) → RectWithin b r → PictureWithin {K = K} b (covering r)
  pub spans : (b : Bounds) (s : Sight) (x y : ℤ) (t : List ℕ)
      → b.left ≤ℤ x → (x +ℤ pos (text_width t)) ≤ℤ b.right → b.top ≤ℤ y → y <ℤ b.bottom
      → PictureWithin {K = K} b (span_picture s x y t)
  pub lines : (b : Bounds) (s : Sight) (x y : ℤ) (ts : List (List ℕ))
      → b.left ≤ℤ x → (x +ℤ pos (texts_width ts)) ≤ℤ b.right → b.top ≤ℤ y → y <ℤ b.bottom
      → PictureWithin {K = K} b (line_picture s x y ts)
  pub texts : (b : Bounds) (s : Sight) (x y : ℤ) (ts : List (List ℕ)) → SightWithin b s
      → b.left ≤ℤ x → (x +ℤ pos (texts_width ts)) ≤ℤ b.right → b.top ≤ℤ y → y <ℤ b.bottom
      → PictureWithin {K = K} b (text_picture s x y ts)
  pub blanks : (b : Bounds) (s : Sight) (r : Rect) → RectWithin b r → PictureWithin {K = K} b (blank_picture s r)
  pub frames : (b : Bounds) (s : Sight) (r : Rect) (title : List ℕ) (body : List (List ℕ)) → RectWithin b r
      → PictureWithin {K = K} b (frame_picture s r title body)
  pub masks : (b : Bounds) (m : Mask) (s : Sight) → SightWithin b s → m.x ≤ℤ b.right → SightWithin b (under m s)

-- ---- counts

-- `step`: one call and then the rest. `further`, `done`: a loop that counts part by part.
pub record CountsAddUp : Type 0 where
  pub step : (c d e a b : Counts) → d ≡ added c a → e ≡ added d b → e ≡ added c (plus a b)
  pub further : (c d e left a more whole : Counts) → left ≡ plus a more → added d left ≡ added c whole → e ≡ added d a
      → added e more ≡ added c whole
  pub done : (c d left whole : Counts) → left ≡ no_counts → added d left ≡ added c whole → d ≡ added c whole

-- ---- the map of boxes

-- in the map that is made of a list of boxes, an id has its last box of the list, and a click hits the last box of the list that it can hit
pub record HasLastBoxes {K S : Type 0} (same_id : K → K → Bool) (clicks : K → Bool) (boxes : HashMap K DrawnRect S) : Type 0 where
  pub rects : (bs : List (Box K)) → IsFromIterResult same_id (with_times bs) boxes → (i : K)
      → option_map (λ (d : DrawnRect). d.rect) (get same_id boxes i) ≡ box_of same_id i bs
  pub targets : (y x : ℤ) (o : Option K) → IsTargetOf same_id clicks boxes y x o → IsLastDrawn same_id clicks boxes y x o
