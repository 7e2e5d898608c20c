-- What is drawn near the document's corner is in range.
use Rattle.std.proofs.Common.{◌≡◌, ℕ, suc, ◌+◌, ◌<◌, ◌≤◌, ℤ, pos, ◌+ℤ◌, ◌≤ℤ◌, neg_ℤ, List, [], ◌∷◌, Bool, length, drop, get_or, add-one, drop-cons, refl, arith}
use Rattle.std.proofs.lemmas.List.{drop_all}
use Rattle.std.proofs.lemmas.Int.{ints}
use Rattle.std.proofs.lemmas.List.Sums.{sum_by-cons}
use Rattle.scm_cells.specs.Spans.{span_texts}
use Rattle.scm_cells.specs.declared.text.Span.{Span}
use Rattle.scm_cells.specs.Clusters.{text_width}
use Rattle.scm_render.specs.Picture.{Picture, PictureInRange, part}
use Rattle.scm_render.specs.Canvas.{Sight, under}
use Rattle.scm_render.specs.Drawing.{texts_width, span_picture, line_picture, text_picture, frame_picture}
use Rattle.scm_render.specs.Bounds.{BoundsInRange, SightWithin, RectWithin, PictureWithin}
use Rattle.scm_render.specs.Laws.{DrawingStaysWithin}
use Rattle.scm_screen_tests.specs.Near.{IsNear, near, AreShort}
use Rattle.scm_screen_tests.specs.Samples.{caption_picture, pair_picture, pane_picture, nest_picture, column_picture}
use Rattle.scm_screen_tests.specs.Tags.{boxed_text, tag_picture}
use Rattle.scm_screen_tests.specs.declared.samples.Caption.{Caption}
use Rattle.scm_screen_tests.specs.declared.samples.Pair.{Pair}
use Rattle.scm_screen_tests.specs.declared.samples.Pane.{Pane}
use Rattle.scm_screen_tests.specs.declared.samples.Nest.{Nest}

near-in_range : BoundsInRange near
near-in_range = record {
  left = record { low = omega (arith, ints); high = omega (arith, ints) };
  right = record { low = omega (arith, ints); high = omega (arith, ints) };
  top = record { low = omega (arith, ints); high = omega (arith, ints) };
  bottom = record { low = omega (arith, ints); high = omega (arith, ints) };
}

pub in_range : {K : Type 0} → DrawingStaysWithin K → (p : Picture K) → PictureWithin near p → PictureInRange p
in_range stays p h = stays.in_range near p near-in_range h

module _ {K : Type 0} (stays : DrawingStaysWithin K) where
  pub span-near : (s : Sight) (x y : ℤ) (t : List ℕ) → IsNear x → IsNear y → text_width t ≤ 100 → PictureWithin {K = K} near (span_picture s x y t)
  span-near s x y t p q h = stays.spans near s x y t (omega (arith, ints, p.low)) (omega (arith, ints, p.high, h)) (omega (arith, ints, q.low)) (omega (arith, ints, q.high))

  pub line-near : (s : Sight) (x y : ℤ) (ts : List (List ℕ)) → IsNear x → IsNear y → texts_width ts ≤ 100 → PictureWithin {K = K} near (line_picture s x y ts)
  line-near s x y ts p q h = stays.lines near s x y ts (omega (arith, ints, p.low)) (omega (arith, ints, p.high, h)) (omega (arith, ints, q.low)) (omega (arith, ints, q.high))

  pub text-near : (s : Sight) (x y : ℤ) (ts : List (List ℕ)) → SightWithin near s → IsNear x → IsNear y → texts_width ts ≤ 100 → PictureWithin {K = K} near (text_picture s x y ts)
  text-near s x y ts w p q h = stays.texts near s x y ts w (omega (arith, ints, p.low)) (omega (arith, ints, p.high, h)) (omega (arith, ints, q.low)) (omega (arith, ints, q.high))

  -- a frame of six columns and three rows
  pub frame-near : (s : Sight) (x y : ℤ) (title : List ℕ) (body : List (List ℕ)) → IsNear x → IsNear y → PictureWithin {K = K} near (frame_picture s (record { x = x; y = y; width = 6; height = 3 }) title body)
  frame-near s x y title body p q =
      let within : RectWithin near (record { x = x; y = y; width = 6; height = 3 }) = record {
        x = omega (arith, ints, p.low);
        end_x = omega (arith, ints, p.high);
        y = omega (arith, ints, q.low);
        end_y = omega (arith, ints, q.high);
      } in
      stays.frames near s _ title body within

  -- a label between brackets
  pub tag-near : (focused : Bool) (label : List ℕ) (s : Sight) → text_width (boxed_text focused label) ≤ 100 → PictureWithin {K = K} near (tag_picture focused label s (pos 0) (pos 0))
  unfolding tag_picture
  tag-near focused label s h =
      let corner : IsNear (pos 0) = record { low = omega (arith, ints); high = omega (arith, ints) } in
      span-near s (pos 0) (pos 0) (boxed_text focused label) corner corner h

-- ---- the columns of spans

-- another span was measured
pub spans-more : (spans : List Span) (i n all : ℕ) (d : Span) → i < length spans → n + texts_width (span_texts (drop i spans)) ≡ all
    → (n + text_width (get_or spans i d).0.now) + texts_width (span_texts (drop (i + 1) spans)) ≡ all
unfolding texts_width
spans-more spans i n all d h e =
    let left = rw (drop-cons spans i d h) at e in
    let one = sum_by-cons text_width (get_or spans i d).0.now (span_texts (drop (suc i) spans)) in
    rw add-one (omega (arith, left, one))

-- all spans were measured
pub spans-end : (spans : List Span) (i : ℕ) → length spans ≤ i → texts_width (span_texts (drop i spans)) ≡ 0
unfolding texts_width
spans-end spans i h = rw (drop_all i spans h) refl

-- ---- sample components

one-width : (t : List ℕ) → text_width t ≤ 100 → texts_width (t ∷ []) ≤ 100
unfolding texts_width
one-width t h = omega (arith, h)

module _ (stays : DrawingStaysWithin ℕ) where
  pub caption-near : (c : Caption) (s : Sight) (x y : ℤ) → SightWithin near s → IsNear x → IsNear y → text_width c.text.now ≤ 100 → PictureWithin near (caption_picture c s x y)
  unfolding caption_picture
  caption-near c s x y w p q h = text-near stays s x y (c.text.now ∷ []) w p q (one-width c.text.now h)

  part-near : (c : Caption) (s : Sight) (x y : ℤ) → SightWithin near s → IsNear x → IsNear y → text_width c.text.now ≤ 100 → PictureWithin near (part c.id (caption_picture c s x y))
  part-near c s x y w p q h = stays.parts near _ _ (caption-near c s x y w p q h)

  pub pair-near : (c : Pair) (s : Sight) (x y : ℤ) → SightWithin near s → IsNear x → IsNear y → IsNear (y +ℤ pos 1) → text_width c.first.text.now ≤ 100 → text_width c.second.text.now ≤ 100 → PictureWithin near (pair_picture c s x y)
  unfolding pair_picture
  pair-near c s x y w p q r h k = stays.followed near _ _ (part-near c.first s x y w p q h) (part-near c.second s x (y +ℤ pos 1) w p r k)

  pane-near : (c : Pane) (s : Sight) (x y : ℤ) → SightWithin near s → IsNear c.mask.x → IsNear x → IsNear y → text_width c.caption.text.now ≤ 100 → PictureWithin near (pane_picture c s x y)
  unfolding pane_picture
  pane-near c s x y w m p q h = part-near c.caption (under c.mask s) x y (stays.masks near c.mask s w (omega (arith, ints, m.high))) p q h

  pub nest-near : (c : Nest) (s : Sight) (x y : ℤ) → SightWithin near s → IsNear c.mask.x → IsNear c.pane.mask.x → IsNear x → IsNear y → IsNear (y +ℤ pos 1)
      → text_width c.pane.caption.text.now ≤ 100 → text_width c.below.text.now ≤ 100 → PictureWithin near (nest_picture c s x y)
  unfolding nest_picture
  nest-near c s x y w m o p q r h k =
      let set = stays.masks near c.mask s w (omega (arith, ints, m.high)) in
      stays.followed near _ _ (stays.parts near _ _ (pane-near c.pane (under c.mask s) x y set o p q h)) (part-near c.below (under c.mask s) x (y +ℤ pos 1) set p r k)

  pub column-near : (cs : List Caption) (s : Sight) (x y : ℤ) → SightWithin near s → IsNear x → neg_ℤ (pos 1000) ≤ℤ y → (y +ℤ pos (length cs)) ≤ℤ pos 1000 → AreShort cs → PictureWithin near (column_picture cs s x y)
  unfolding column_picture
  column-near [] s x y w p l h k = stays.nothing near
  column-near (c ∷ cs) s x y w p l h k =
      let at : IsNear y = record { low = l; high = omega (arith, ints) } in
      stays.followed near _ _ (part-near c s x y w p at k.0) (column-near cs s x (y +ℤ pos 1) w p (omega (arith, ints)) (omega (arith, ints)) k.1)

-- a text that was found short, where those after it are
pub short-more : (cs : List Caption) (i : ℕ) (d : Caption) → i < length cs → text_width (get_or cs i d).text.now ≤ 100 → AreShort (drop (i + 1) cs) → AreShort (drop i cs)
short-more cs i d h k l = rw (drop-cons cs i d h) (k, rw add-one at l)

pub short-end : (cs : List Caption) (i : ℕ) → length cs ≤ i → AreShort (drop i cs)
short-end cs i h = rw (drop_all i cs h) tt
