-- The puts of the drawing calls, step by step.
use Rattle.std.proofs.Common.{◌≡◌, ℕ, suc, ◌+◌, ◌-◌, ◌<◌, ◌≤◌, List, [], ◌∷◌, ◌++◌, length, drop, get_or, set, refl, sym, ap, ◌∙◌, arith, add-one, drop-cons, true, false, Bool, append_assoc, ◌⊎◌, inl, inr}
use Rattle.std.specs.Prelude.{ℤ, pos, ◌+ℤ◌, ◌-ℤ◌, ◌≤ℤ◌, ◌<ℤ◌, min, take, encode_utf8}
use Rattle.std.specs.Int.RustNames.{unsigned_abs}
use Rattle.std.proofs.lemmas.List.{drop_all, take_min, take-map}
use Rattle.std.proofs.lemmas.Int.{ints}
use Rattle.std.proofs.lemmas.List.Sums.{sum_by-cons}
use Rattle.scm_cells.proofs.RectLemmas.{places}
use Rattle.scm_cells.specs.Rect.{end_x_of, end_y_of}
use Rattle.scm_cells.specs.Clusters.{text_width}
use Rattle.scm_cells.specs.Counts.{Counts, no_counts}
use denote.Ref.{Bor}
use Rattle.scm_cells.specs.Spans.{span_texts}
use Rattle.scm_cells.specs.declared.text.Span.{Span}
use Rattle.scm_cells.specs.declared.rect.Rect.{Rect}
use Rattle.scm_render.specs.declared.filling.Filling.{Filling}
use Rattle.scm_cells.specs.Row.{put, ellipsis}
use Rattle.scm_render.specs.Picture.{Picture, PictureInRange, followed_by, nothing}
use Rattle.scm_render.specs.Canvas.{Row, Canvas, Sight, SurfaceState, with_puts, with_picture, kept_area}
use Rattle.scm_render.specs.Rows.{limit}
use Rattle.scm_render.specs.Drawing.{has_row, whole_put, text_puts, texts_puts, texts_width, symbol_at, row_text, rows_puts, lines_puts, body_texts, reach, row_rect, span_picture, line_picture, text_picture, fill_puts, blank_picture, title_room, body_room, frame_puts, frame_picture}
use Rattle.scm_render.specs.declared.filling.Filling.TheVariants.{Blank, Border}
use Rattle.scm_cells.specs.Rect.{RectInRange, is_empty, intersect_of}
use Rattle.std.specs.Prelude.{int_lt}
use Rattle.scm_render.proofs.PictureLemmas.{PictureInRange-left, PictureInRange-right}
use Rattle.scm_render.proofs.CanvasLemmas.{with_picture-plain, with_picture-sight, with_picture-twice, with_picture-nothing, with_picture-then}
use Rattle.scm_render.proofs.PaintLemmas.{painted-above, painted-below, painted-at, with_puts-same, with_puts-none, with_puts-rest, with_puts-end, with_puts-three}

-- a text put on a row of the screen
pub put-whole : {k : Counts} (v m : Rect) (rows : List Row) (x y : ℤ) (t : List ℕ) (n : ℕ) (at : ℤ) (low high : ℕ) → v.y ≤ℤ y → n ≡ unsigned_abs (v.y -ℤ y) → n < length rows
    → at ≡ x -ℤ v.x → low ≡ limit v m.x → high ≡ limit v (end_x_of m)
    → record { rect = v; rows = set rows n (put (get_or rows n []) at t low high); counts = k } ≡ with_puts (whole_put m x y t ∷ []) (record { rect = v; rows = rows; counts = k })
unfolding with_puts
put-whole {k} v m rows x y t n at low high top e h f l g =
    let row : y ≡ v.y +ℤ pos n = omega (arith, places) in
    ap (λ w. record { rect = v; rows = w; counts = k })
    (ap (λ a. set rows n (put (get_or rows n []) a t low high)) f
    ∙ ap (λ a. set rows n (put (get_or rows n []) (x -ℤ v.x) t a high)) l
    ∙ ap (λ a. set rows n (put (get_or rows n []) (x -ℤ v.x) t (limit v m.x) a)) g
    ∙ sym (painted-at v (whole_put m x y t) v.y rows n [] h row))

pub text_puts-shown : (m : Rect) (x y : ℤ) (t : List ℕ) → has_row m y ≡ true → text_puts m x y t ≡ whole_put m x y t ∷ []
unfolding text_puts
text_puts-shown m x y t e = rw e refl

pub text_puts-hidden : (m : Rect) (x y : ℤ) (t : List ℕ) → has_row m y ≡ false → text_puts m x y t ≡ []
unfolding text_puts
text_puts-hidden m x y t e = rw e refl

-- a text that does not show on the screen
pub text-hidden : (a : SurfaceState) (m : Rect) (x y : ℤ) (t : List ℕ) → has_row m y ≡ false → a ≡ with_puts (text_puts m x y t) a
text-hidden a m x y t e = rw (text_puts-hidden m x y t e) (sym (with_puts-none a))

pub off_cases : (v : Rect) (y : ℤ) → has_row v y ≡ false → (y <ℤ v.y) ⊎ (end_y_of v ≤ℤ y)
off_cases v y e = grind (arith, ints)

pub text-off : (a : SurfaceState) (m : Rect) (x y : ℤ) (t : List ℕ) → length a.rows ≡ a.rect.height → has_row a.rect y ≡ false → a ≡ with_puts (text_puts m x y t) a
text-off a m x y t n e = by_row (has_row m y) refl
  where
    v : Rect
    v = a.rect

    by_row : (b : Bool) → has_row m y ≡ b → a ≡ with_puts (text_puts m x y t) a
    by_row true k =
        rw (text_puts-shown m x y t k) (sym (with_puts-same (whole_put m x y t ∷ []) a
        (elim (off_cases v y e) [ inl h ↦ painted-above v (whole_put m x y t) v.y a.rows h | inr h ↦ painted-below v (whole_put m x y t) v.y a.rows (rw n h) ])))
    by_row false k = text-hidden a m x y t k

pub texts_puts-more : (r : Rect) (x y : ℤ) (t : List ℕ) (ts us : List (List ℕ)) → us ≡ t ∷ ts → texts_puts r x y us ≡ text_puts r x y t ++ texts_puts r (x +ℤ pos (text_width t)) y ts
unfolding texts_puts
texts_puts-more r x y t ts us e = rw e refl

pub texts_puts-none : (r : Rect) (x y : ℤ) (us : List (List ℕ)) → us ≡ [] → texts_puts r x y us ≡ []
unfolding texts_puts
texts_puts-none r x y us e = rw e refl

pub texts_width-more : (t : List ℕ) (ts us : List (List ℕ)) → us ≡ t ∷ ts → texts_width us ≡ text_width t + texts_width ts
unfolding texts_width
texts_width-more t ts us e = rw e (sum_by-cons text_width t ts)

pub texts_width-none : (us : List (List ℕ)) → us ≡ [] → texts_width us ≡ 0
unfolding texts_width
texts_width-none us e = rw e refl

pub lines_puts-more : (r : Rect) (x y : ℤ) (t : List ℕ) (ts us : List (List ℕ)) → us ≡ t ∷ ts → lines_puts r x y us ≡ text_puts r x y t ++ lines_puts r x (y +ℤ pos 1) ts
unfolding lines_puts
lines_puts-more r x y t ts us e = rw e refl

pub lines_puts-none : (r : Rect) (x y : ℤ) (us : List (List ℕ)) → us ≡ [] → lines_puts r x y us ≡ []
unfolding lines_puts
lines_puts-none r x y us e = rw e refl

pub rows_puts-more : (f : Filling) (r : Rect) (y : ℤ) (n m : ℕ) → n ≡ suc m → rows_puts f r y n ≡ text_puts r r.x y (row_text f r.x y r.width) ++ rows_puts f r (y +ℤ pos 1) m
unfolding rows_puts
rows_puts-more f r y n m e = rw e refl

pub rows_puts-none : (f : Filling) (r : Rect) (y : ℤ) (n : ℕ) → n ≡ 0 → rows_puts f r y n ≡ []
unfolding rows_puts
rows_puts-none f r y n e = rw e refl

pub row_text-more : (f : Filling) (x y : ℤ) (n m : ℕ) → n ≡ suc m → row_text f x y n ≡ encode_utf8 (symbol_at f x y) ++ row_text f (x +ℤ pos 1) y m
unfolding row_text
row_text-more f x y n m e = rw e refl

pub row_text-none : (f : Filling) (x y : ℤ) (n : ℕ) → n ≡ 0 → row_text f x y n ≡ []
unfolding row_text
row_text-none f x y n e = rw e refl

-- ---- a step of each loop

pub row_text-step : (f : Filling) (x y : ℤ) (n o : ℕ) (t u all : List ℕ) → o < n → u ≡ t ++ encode_utf8 (symbol_at f (x +ℤ pos o) y) → t ++ row_text f (x +ℤ pos o) y (n - o) ≡ all
    → u ++ row_text f (x +ℤ pos (o + 1)) y (n - (o + 1)) ≡ all
row_text-step f x y n o t u all h e p =
    let shift : (x +ℤ pos o) +ℤ pos 1 ≡ x +ℤ pos (o + 1) = omega (arith, ints) in
    let more = row_text-more f (x +ℤ pos o) y (n - o) (n - (o + 1)) (omega arith) in
    ap (λ w. w ++ row_text f (x +ℤ pos (o + 1)) y (n - (o + 1))) e
    ∙ append_assoc t (encode_utf8 (symbol_at f (x +ℤ pos o) y)) (row_text f (x +ℤ pos (o + 1)) y (n - (o + 1)))
    ∙ ap (λ k. t ++ (encode_utf8 (symbol_at f (x +ℤ pos o) y) ++ row_text f k y (n - (o + 1)))) (sym shift)
    ∙ ap (λ w. t ++ w) (sym more) ∙ p

pub fill-step : (r : Rect) (f : Filling) (o : ℕ) (y : ℤ) (t : List ℕ) (a b all : SurfaceState) → o < r.height → y ≡ r.y +ℤ pos o → t ≡ row_text f r.x y r.width
    → b ≡ with_puts (text_puts r r.x y t) a → with_puts (rows_puts f r (r.y +ℤ pos o) (r.height - o)) a ≡ all
    → with_puts (rows_puts f r (r.y +ℤ pos (o + 1)) (r.height - (o + 1))) b ≡ all
fill-step r f o y t a b all h e w p q =
    let shift : (r.y +ℤ pos o) +ℤ pos 1 ≡ r.y +ℤ pos (o + 1) = omega (arith, ints) in
    let rest = rows_puts f r (r.y +ℤ pos (o + 1)) (r.height - (o + 1)) in
    with_puts-rest a b all (text_puts r r.x y t) rest (rows_puts f r (r.y +ℤ pos o) (r.height - o))
    (rows_puts-more f r (r.y +ℤ pos o) (r.height - o) (r.height - (o + 1)) (omega arith)
    ∙ ap (λ k. text_puts r r.x (r.y +ℤ pos o) (row_text f r.x (r.y +ℤ pos o) r.width) ++ rows_puts f r k (r.height - (o + 1))) shift
    ∙ ap (λ k. text_puts r r.x k (row_text f r.x k r.width) ++ rest) (sym e)
    ∙ ap (λ k. text_puts r r.x y k ++ rest) (sym w))
    p q

pub fill-end : (r : Rect) (f : Filling) (o : ℕ) (a all : SurfaceState) → r.height ≤ o → with_puts (rows_puts f r (r.y +ℤ pos o) (r.height - o)) a ≡ all → a ≡ all
fill-end r f o a all h p = with_puts-end a all _ (rows_puts-none f r (r.y +ℤ pos o) (r.height - o) (omega arith)) p

pub spans-more : (spans : List Span) (i : ℕ) (d : Span) → i < length spans → span_texts (drop i spans) ≡ (get_or spans i d).0.now ∷ span_texts (drop (i + 1) spans)
spans-more spans i d h = rw (add-one, drop-cons spans i d h) refl

pub spans-none : (spans : List Span) (i : ℕ) → length spans ≤ i → span_texts (drop i spans) ≡ []
spans-none spans i h = rw (drop_all i spans h) refl

pub spans-step : (m : Rect) (x y : ℤ) (spans : List Span) (i n : ℕ) (d : Span) (a b all : SurfaceState) → i < length spans
    → b ≡ with_puts (text_puts m (x +ℤ pos n) y (get_or spans i d).0.now) a
    → with_puts (texts_puts m (x +ℤ pos n) y (span_texts (drop i spans))) a ≡ all
    → with_puts (texts_puts m (x +ℤ pos (n + text_width (get_or spans i d).0.now)) y (span_texts (drop (i + 1) spans))) b ≡ all
spans-step m x y spans i n d a b all h p q =
    let t = (get_or spans i d).0.now in
    let shift : (x +ℤ pos n) +ℤ pos (text_width t) ≡ x +ℤ pos (n + text_width t) = omega (arith, ints) in
    with_puts-rest a b all (text_puts m (x +ℤ pos n) y t) _ (texts_puts m (x +ℤ pos n) y (span_texts (drop i spans)))
    (texts_puts-more m (x +ℤ pos n) y t (span_texts (drop (i + 1) spans)) _ (spans-more spans i d h)
    ∙ ap (λ k. text_puts m (x +ℤ pos n) y t ++ texts_puts m k y (span_texts (drop (i + 1) spans))) shift)
    p q

pub spans-end : (m : Rect) (x y : ℤ) (spans : List Span) (i : ℕ) (a all : SurfaceState) → length spans ≤ i → with_puts (texts_puts m x y (span_texts (drop i spans))) a ≡ all → a ≡ all
spans-end m x y spans i a all h p = with_puts-end a all _ (texts_puts-none m x y _ (spans-none spans i h)) p

pub spans_width-step : (spans : List Span) (i n all : ℕ) (d : Span) → i < length spans → n + texts_width (span_texts (drop i spans)) ≡ all
    → (n + text_width (get_or spans i d).0.now) + texts_width (span_texts (drop (i + 1) spans)) ≡ all
spans_width-step spans i n all d h e = omega (arith, texts_width-more (get_or spans i d).0.now (span_texts (drop (i + 1) spans)) _ (spans-more spans i d h))

pub spans_width-fits : (spans : List Span) (i n w all : ℕ) (d : Span) → i < length spans → w ≡ text_width (get_or spans i d).0.now → n + texts_width (span_texts (drop i spans)) ≡ all → n + w ≤ all
spans_width-fits spans i n w all d h k e = omega (arith, spans_width-step spans i n all d h e)

pub lines-more : (lines : List (Bor (List ℕ))) (i : ℕ) (d : Bor (List ℕ)) → i < length lines → body_texts (drop i lines) ≡ (get_or lines i d).now ∷ body_texts (drop (i + 1) lines)
lines-more lines i d h = rw (add-one, drop-cons lines i d h) refl

pub lines-none : (lines : List (Bor (List ℕ))) (i : ℕ) → length lines ≤ i → body_texts (drop i lines) ≡ []
lines-none lines i h = rw (drop_all i lines h) refl

pub lines-step : (m : Rect) (x y : ℤ) (lines : List (Bor (List ℕ))) (i : ℕ) (d : Bor (List ℕ)) (a b all : SurfaceState) → i < length lines
    → b ≡ with_puts (text_puts m x (y +ℤ pos i) (get_or lines i d).now) a
    → with_puts (lines_puts m x (y +ℤ pos i) (body_texts (drop i lines))) a ≡ all
    → with_puts (lines_puts m x (y +ℤ pos (i + 1)) (body_texts (drop (i + 1) lines))) b ≡ all
lines-step m x y lines i d a b all h p q =
    let t = (get_or lines i d).now in
    let shift : (y +ℤ pos i) +ℤ pos 1 ≡ y +ℤ pos (i + 1) = omega (arith, ints) in
    with_puts-rest a b all (text_puts m x (y +ℤ pos i) t) _ (lines_puts m x (y +ℤ pos i) (body_texts (drop i lines)))
    (lines_puts-more m x (y +ℤ pos i) t (body_texts (drop (i + 1) lines)) _ (lines-more lines i d h)
    ∙ ap (λ k. text_puts m x (y +ℤ pos i) t ++ lines_puts m x k (body_texts (drop (i + 1) lines))) shift)
    p q

pub lines-end : (m : Rect) (x y : ℤ) (lines : List (Bor (List ℕ))) (i : ℕ) (a all : SurfaceState) → length lines ≤ i → with_puts (lines_puts m x y (body_texts (drop i lines))) a ≡ all → a ≡ all
lines-end m x y lines i a all h p = with_puts-end a all _ (lines_puts-none m x y _ (lines-none lines i h)) p

-- ---- a frame

pub shown_lines : (lines : List (Bor (List ℕ))) (n : ℕ) → body_texts (take (min n (length lines)) lines) ≡ take n (body_texts lines)
shown_lines lines n = ap body_texts (take_min n lines) ∙ sym (take-map (λ line. line.now) n lines)

pub frame-made : (m r i j k t b : Rect) (title : List ℕ) (body : List (Bor (List ℕ))) (shown : List (Bor (List ℕ))) (a p q s : SurfaceState)
    → i ≡ intersect_of r m → t ≡ title_room r → j ≡ intersect_of t m → b ≡ body_room r → k ≡ intersect_of b m → shown ≡ take (min b.height (length body)) body
    → p ≡ with_puts (fill_puts (Border r) i) a → q ≡ with_puts (text_puts j t.x t.y title) p → s ≡ with_puts (lines_puts k b.x b.y (body_texts shown)) q
    → s ≡ with_puts (frame_puts m r title (body_texts body)) a
unfolding frame_puts
frame-made m r i j k t b title body shown a p q s ei et ej eb ek es hp hq hs =
    with_puts-three (fill_puts (Border r) (intersect_of r m)) (text_puts (intersect_of (title_room r) m) (r.x +ℤ pos 1) r.y title) (lines_puts (intersect_of (body_room r) m) (r.x +ℤ pos 1) (r.y +ℤ pos 1) (take (r.height - 2) (body_texts body))) a p q s
    (hp ∙ ap (λ w. with_puts (fill_puts (Border r) w) a) ei)
    (hq ∙ ap (λ w. with_puts (text_puts w t.x t.y title) p) ej ∙ ap (λ w. with_puts (text_puts (intersect_of w m) w.x w.y title) p) et)
    (hs ∙ ap (λ w. with_puts (lines_puts w b.x b.y (body_texts shown)) q) ek ∙ ap (λ w. with_puts (lines_puts (intersect_of b m) b.x b.y (body_texts w)) q) es
    ∙ ap (λ w. with_puts (lines_puts (intersect_of w m) w.x w.y (body_texts (take (min w.height (length body)) body))) q) eb
    ∙ ap (λ w. with_puts (lines_puts (intersect_of (body_room r) m) (r.x +ℤ pos 1) (r.y +ℤ pos 1) w) q) (shown_lines body (r.height - 2)))

-- ---- the pictures of the calls on a canvas

module _ {K : Type 0} where
  -- the rows of a canvas, the part of the document that they show, and how much was drawn
  abbrev surface_of : Canvas K → Counts → SurfaceState
  surface_of c k = record { rect = c.sight.rect; rows = c.rows; counts = k }

  -- a picture without a box was put on the rows, and its areas are covered
  put_and_covered : {j : Counts} (k : Counts) (c d : Canvas K) (p : Picture K) → surface_of d j ≡ with_puts p.puts (surface_of c k) → d.sight.mask ≡ c.sight.mask → d.area ≡ kept_area c.boxes c.area p.areas → d.boxes ≡ c.boxes → p.boxes ≡ [] → d ≡ with_picture c p
  unfolding with_puts
  put_and_covered k c d p s m a b none =
      let rect : d.sight.rect ≡ c.sight.rect = ap (λ (w : SurfaceState). w.rect) s in
      let sight : ◌≡◌ {A = Sight} (record { rect = d.sight.rect; mask = d.sight.mask }) (record { rect = c.sight.rect; mask = c.sight.mask }) = cc (rect, m) in
      with_picture-plain c d p sight (ap (λ (w : SurfaceState). w.rows) s) a b none

  pub with_picture-span : {j : Counts} (k : Counts) (c d : Canvas K) (m : Rect) (x y : ℤ) (t : List ℕ) → m ≡ reach c.sight
      → surface_of d j ≡ with_puts (text_puts m x y t) (surface_of c k) → d.sight.mask ≡ c.sight.mask → d.area ≡ kept_area c.boxes c.area ((row_rect x y (text_width t)) ∷ []) → d.boxes ≡ c.boxes
      → d ≡ with_picture c (span_picture c.sight x y t)
  unfolding span_picture
  with_picture-span u c d m x y t e s k a b =
      put_and_covered u c d (span_picture c.sight x y t) (s ∙ ap (λ w. with_puts (text_puts w x y t) (surface_of c u)) e) k a b refl

  pub with_picture-line : {j : Counts} (k : Counts) (c d : Canvas K) (m : Rect) (x y : ℤ) (ts : List (List ℕ)) → m ≡ reach c.sight
      → surface_of d j ≡ with_puts (texts_puts m x y ts) (surface_of c k) → d.sight.mask ≡ c.sight.mask → d.area ≡ kept_area c.boxes c.area ((row_rect x y (texts_width ts)) ∷ []) → d.boxes ≡ c.boxes
      → d ≡ with_picture c (line_picture c.sight x y ts)
  unfolding line_picture
  with_picture-line u c d m x y ts e s k a b =
      put_and_covered u c d (line_picture c.sight x y ts) (s ∙ ap (λ w. with_puts (texts_puts w x y ts) (surface_of c u)) e) k a b refl

  pub with_picture-blank : {j : Counts} (k : Counts) (c d : Canvas K) (m r : Rect) → m ≡ intersect_of r (reach c.sight)
      → surface_of d j ≡ with_puts (fill_puts Blank m) (surface_of c k) → d.sight.mask ≡ c.sight.mask → d.area ≡ kept_area c.boxes c.area (r ∷ []) → d.boxes ≡ c.boxes
      → d ≡ with_picture c (blank_picture c.sight r)
  unfolding blank_picture
  with_picture-blank u c d m r e s k a b =
      put_and_covered u c d (blank_picture c.sight r) (s ∙ ap (λ w. with_puts (fill_puts Blank w) (surface_of c u)) e) k a b refl

  pub with_picture-frame : {j : Counts} (k : Counts) (c d : Canvas K) (m r : Rect) (title : List ℕ) (body : List (List ℕ)) → m ≡ reach c.sight → is_empty r ≡ false
      → surface_of d j ≡ with_puts (frame_puts m r title body) (surface_of c k) → d.sight.mask ≡ c.sight.mask → d.area ≡ kept_area c.boxes c.area (r ∷ []) → d.boxes ≡ c.boxes
      → d ≡ with_picture c (frame_picture c.sight r title body)
  unfolding frame_picture
  with_picture-frame u c d m r title body e full s k a b =
      put_and_covered u c d (frame_picture c.sight r title body) (s ∙ ap (λ w. with_puts (frame_puts w r title body) (surface_of c u)) e ∙ rw full refl) k a b refl

  pub with_picture-no_frame : (c d : Canvas K) (r : Rect) (title : List ℕ) (body : List (List ℕ)) → is_empty r ≡ true
      → surface_of d no_counts ≡ surface_of c no_counts → d.sight.mask ≡ c.sight.mask → d.area ≡ kept_area c.boxes c.area (r ∷ []) → d.boxes ≡ c.boxes → d ≡ with_picture c (frame_picture c.sight r title body)
  unfolding frame_picture
  with_picture-no_frame c d r title body none s k a b =
      put_and_covered no_counts c d (frame_picture c.sight r title body) (s ∙ sym (with_puts-none (surface_of c no_counts)) ∙ rw none refl) k a b refl

  -- a text with its ellipsis, and one without
  pub text_picture-long : (s : Sight) (x y : ℤ) (ts : List (List ℕ)) → end_x_of (reach s) <ℤ (x +ℤ pos (texts_width ts))
      → text_picture {K = K} s x y ts ≡ followed_by (line_picture s x y ts) (span_picture s (end_x_of (reach s) -ℤ pos 1) y ellipsis)
  unfolding text_picture
  text_picture-long s x y ts h = let e : int_lt (end_x_of (reach s)) (x +ℤ pos (texts_width ts)) ≡ true = grind (arith, ints) in rw e refl

  pub text_picture-short : (s : Sight) (x y : ℤ) (ts : List (List ℕ)) → (x +ℤ pos (texts_width ts)) ≤ℤ end_x_of (reach s)
      → text_picture {K = K} s x y ts ≡ followed_by (line_picture s x y ts) nothing
  unfolding text_picture
  text_picture-short s x y ts h = let e : int_lt (end_x_of (reach s)) (x +ℤ pos (texts_width ts)) ≡ false = grind (arith, ints) in rw e refl

  pub text_picture-line : (s : Sight) (x y : ℤ) (ts : List (List ℕ)) → PictureInRange {K = K} (text_picture s x y ts) → PictureInRange {K = K} (line_picture s x y ts)
  unfolding text_picture
  text_picture-line s x y ts r = PictureInRange-left _ _ r

  pub with_picture-short : (c : Canvas K) (m : Picture K) → with_picture c (followed_by m nothing) ≡ with_picture c m
  with_picture-short c m = sym (with_picture-then c m nothing) ∙ with_picture-nothing (with_picture c m)

  pub line_in_range : (s : Sight) (x y : ℤ) (ts : List (List ℕ)) → PictureInRange {K = K} (line_picture s x y ts) → RectInRange (row_rect x y (texts_width ts))
  unfolding line_picture
  line_in_range s x y ts r = r.areas.0

  pub span_in_range : (s : Sight) (x y : ℤ) (t : List ℕ) → PictureInRange {K = K} (span_picture s x y t) → RectInRange (row_rect x y (text_width t))
  unfolding span_picture
  span_in_range s x y t r = r.areas.0

  pub blank_in_range : (s : Sight) (r : Rect) → PictureInRange {K = K} (blank_picture s r) → RectInRange r
  unfolding blank_picture
  blank_in_range s r p = p.areas.0

  pub frame_in_range : (s : Sight) (r : Rect) (title : List ℕ) (body : List (List ℕ)) → PictureInRange {K = K} (frame_picture s r title body) → RectInRange r
  unfolding frame_picture
  frame_in_range s r title body p = p.areas.0

  -- a text that goes past what drawing reaches, which is the same after it is drawn
  pub sight-after : (c d : Canvas K) (x y : ℤ) (ts : List (List ℕ)) → d ≡ with_picture c (line_picture c.sight x y ts) → d.sight ≡ c.sight
  sight-after c d x y ts h = ap (λ v. v.sight) h ∙ with_picture-sight c (line_picture c.sight x y ts)

  pub reach-after : (c d : Canvas K) (m : Rect) (x y : ℤ) (ts : List (List ℕ)) → d ≡ with_picture c (line_picture c.sight x y ts) → m ≡ reach c.sight → m ≡ reach d.sight
  reach-after c d m x y ts h e = e ∙ ap reach (sym (sight-after c d x y ts h))

  pub ellipsis_in_range : (c d : Canvas K) (m : Rect) (end x y : ℤ) (ts : List (List ℕ)) → d ≡ with_picture c (line_picture c.sight x y ts) → m ≡ reach c.sight → end ≡ end_x_of m
      → end <ℤ (x +ℤ pos (texts_width ts)) → PictureInRange {K = K} (text_picture c.sight x y ts) → PictureInRange {K = K} (span_picture d.sight (end -ℤ pos 1) y ellipsis)
  ellipsis_in_range c d m end x y ts h e f l r =
      let at : end ≡ end_x_of (reach c.sight) = f ∙ ap end_x_of e in
      rw (sight-after c d x y ts h, at) (PictureInRange-right _ _ (rw (text_picture-long c.sight x y ts (rw at at l)) at r))

  pub with_picture-long : (c d e : Canvas K) (m : Rect) (end x y : ℤ) (ts : List (List ℕ)) → d ≡ with_picture c (line_picture c.sight x y ts) → m ≡ reach c.sight → end ≡ end_x_of m
      → end <ℤ (x +ℤ pos (texts_width ts)) → e ≡ with_picture d (span_picture d.sight (end -ℤ pos 1) y ellipsis) → e ≡ with_picture c (text_picture c.sight x y ts)
  with_picture-long c d e m end x y ts h p f l k =
      let at : end ≡ end_x_of (reach c.sight) = f ∙ ap end_x_of p in
      with_picture-twice c d e (line_picture c.sight x y ts) (span_picture c.sight (end_x_of (reach c.sight) -ℤ pos 1) y ellipsis) h
      (k ∙ ap (λ w. with_picture d (span_picture w (end -ℤ pos 1) y ellipsis)) (sight-after c d x y ts h) ∙ ap (λ w. with_picture d (span_picture c.sight (w -ℤ pos 1) y ellipsis)) at)
      ∙ ap (with_picture c) (sym (text_picture-long c.sight x y ts (rw at at l)))

  pub with_picture-fitting : (c d : Canvas K) (m : Rect) (end x y : ℤ) (ts : List (List ℕ)) → d ≡ with_picture c (line_picture c.sight x y ts) → m ≡ reach c.sight → end ≡ end_x_of m
      → (x +ℤ pos (texts_width ts)) ≤ℤ end → d ≡ with_picture c (text_picture c.sight x y ts)
  with_picture-fitting c d m end x y ts h p f l =
      let at : end ≡ end_x_of (reach c.sight) = f ∙ ap end_x_of p in
      h ∙ sym (with_picture-short c (line_picture c.sight x y ts)) ∙ ap (with_picture c) (sym (text_picture-short c.sight x y ts (rw at at l)))
