-- Texts that are cut behind the last column in sight: they leave on the screen what the whole ones leave.
use Rattle.std.proofs.Common.{◌≡◌, ℕ, ◌<◌, ◌≤◌, Bool, true, false, List, [], ◌∷◌, ◌++◌, refl, sym, ap, ap₂, ◌∙◌, arith, cond, min, ◌⊎◌, inl, inr}
use Rattle.std.specs.Prelude.{ℤ, pos, ◌+ℤ◌, ◌-ℤ◌, ◌<ℤ◌, ◌≤ℤ◌, int_lt, if◌then◌else◌, sum_by, None}
use Rattle.std.specs.Int.{int_max}
use Rattle.std.specs.Ordering.{int_eq}
use Rattle.std.proofs.lemmas.Int.{ints}
use Rattle.std.proofs.lemmas.List.Sums.{sum_by-cons, sum_by-append}
use Rattle.scm_cells.specs.Beginnings.{IsCut, Adds}
use Rattle.scm_cells.specs.Clusters.{text_width}
use Rattle.scm_cells.specs.Rect.{RectInRange, or_zero, end_x_of, rect_between}
use Rattle.scm_cells.specs.Row.{put, ellipsis}
use Rattle.scm_cells.specs.Spans.{span_texts}
use Rattle.scm_cells.specs.declared.text.Span.{Span}
use Rattle.scm_cells.specs.declared.rect.Rect.{Rect}
use Rattle.scm_cells.proofs.EdgeLemmas.{put-behind, put-front, text_width-front}
use Rattle.scm_cells.proofs.RectLemmas.{places}
use Rattle.scm_render.specs.Canvas.{Row, Sight, Canvas, paint, paint_rows, with_picture}
use Rattle.scm_render.specs.Drawing.{reach, has_row, row_rect, texts_puts, texts_width, line_picture, span_picture, text_picture}
use Rattle.scm_render.specs.Picture.{Put, PictureInRange, nothing, followed_by}
use Rattle.scm_render.specs.Rows.{put_texts, say_texts, limit}
use Rattle.scm_render.proofs.CanvasLemmas.{canvas-same}
use Rattle.scm_render.proofs.DrawLemmas.{text_puts-hidden, texts_puts-none, texts_puts-more}
use Rattle.scm_render.proofs.PictureLemmas.{PictureInRange-left, PictureInRange-right, PictureInRange-followed}
use Rattle.scm_render.proofs.RowLemmas.{one_said}
use Rattle.scm_widgets.specs.declared.ids.ComponentId.{ComponentId}
use Rattle.scm_document.specs.Visible.{ShowsFrom, AddsVisible}

-- ---- the columns of texts that are cut

texts_width-is : (ts : List (List ℕ)) → texts_width ts ≡ sum_by text_width ts
unfolding texts_width
texts_width-is ts = refl

cut-narrower : (columns : ℕ) (ts us : List (List ℕ)) → IsCut columns ts us → texts_width ts ≤ texts_width us
cut-narrower columns ts us h =
    let last = text_width-front h.last h.whole h.more h.begins in
    omega (
      arith,
      last,
      texts_width-is ts,
      texts_width-is us,
      ap (sum_by text_width) h.cut,
      ap (sum_by text_width) h.texts,
      sum_by-append text_width h.front (h.last ∷ []),
      sum_by-append text_width h.front (h.whole ∷ h.after),
      sum_by-cons text_width h.last [],
      sum_by-cons text_width h.whole h.after,
    )

cut-wide : (columns : ℕ) (ts us : List (List ℕ)) → IsCut columns ts us → columns < texts_width ts
cut-wide columns ts us h = omega (arith, h.wide, texts_width-is ts)

-- ---- the row

put_texts-nil : (row : Row) (column : ℤ) (low high : ℕ) → put_texts row column [] low high ≡ row
unfolding put_texts
put_texts-nil row column low high = refl

put_texts-cons : (row : Row) (column : ℤ) (t : List ℕ) (ts : List (List ℕ)) (low high : ℕ)
    → put_texts row column (t ∷ ts) low high ≡ put_texts (put row column t low high) (column +ℤ pos (text_width t)) ts low high
unfolding put_texts
put_texts-cons row column t ts low high = refl

put_texts-append : (row : Row) (column : ℤ) (ts us : List (List ℕ)) (low high : ℕ)
    → put_texts row column (ts ++ us) low high ≡ put_texts (put_texts row column ts low high) (column +ℤ pos (sum_by text_width ts)) us low high
put_texts-append row column [] us low high =
    let same : column ≡ column +ℤ pos 0 = omega (arith, ints) in
    ap₂ (λ r z. put_texts r z us low high) (sym (put_texts-nil row column low high)) same
put_texts-append row column (t ∷ ts) us low high =
    let sum = sum_by-cons text_width t ts in
    let next : (column +ℤ pos (text_width t)) +ℤ pos (sum_by text_width ts) ≡ column +ℤ pos (sum_by text_width (t ∷ ts)) = omega (arith, ints, sum) in
    put_texts-cons row column t (ts ++ us) low high
    ∙ put_texts-append (put row column t low high) (column +ℤ pos (text_width t)) ts us low high
    ∙ ap₂ (λ r z. put_texts r z us low high) (sym (put_texts-cons row column t ts low high)) next

-- texts from the high limit on leave the row
put_texts-behind : (row : Row) (column : ℤ) (ts : List (List ℕ)) (low high : ℕ) → pos high ≤ℤ column → put_texts row column ts low high ≡ row
put_texts-behind row column [] low high h = put_texts-nil row column low high
put_texts-behind row column (t ∷ ts) low high h =
    put_texts-cons row column t ts low high
    ∙ ap (λ r. put_texts r (column +ℤ pos (text_width t)) ts low high) (put-behind row column t low high h)
    ∙ put_texts-behind row (column +ℤ pos (text_width t)) ts low high (omega (arith, ints, h))

put_texts-cut : (row : Row) (column : ℤ) (columns : ℕ) (ts us : List (List ℕ)) (low high : ℕ) → IsCut columns ts us → pos high ≤ℤ (column +ℤ pos columns)
    → put_texts row column ts low high ≡ put_texts row column us low high
put_texts-cut row column columns ts us low high h reaches =
    let front = put_texts row column h.front low high in
    let at = column +ℤ pos (sum_by text_width h.front) in
    let sum = sum_by-append text_width h.front (h.last ∷ []) in
    let one = sum_by-cons text_width h.last [] in
    let end : pos high ≤ℤ (at +ℤ pos (text_width h.last)) = omega (arith, ints, reaches, h.wide, ap (sum_by text_width) h.cut, sum, one) in
    let wider = text_width-front h.last h.whole h.more h.begins in
    let last : put front at h.whole low high ≡ put front at h.last low high = put-front front at h.last h.whole h.more low high h.begins end in
    let cut : put_texts row column ts low high ≡ put front at h.last low high =
    ap (λ t. put_texts row column t low high) h.cut ∙ put_texts-append row column h.front (h.last ∷ []) low high
    ∙ put_texts-cons front at h.last [] low high ∙ put_texts-nil (put front at h.last low high) (at +ℤ pos (text_width h.last)) low high in
    let whole : put_texts row column us low high ≡ put front at h.whole low high =
    ap (λ t. put_texts row column t low high) h.texts ∙ put_texts-append row column h.front (h.whole ∷ h.after) low high
    ∙ put_texts-cons front at h.whole h.after low high
    ∙ put_texts-behind (put front at h.whole low high) (at +ℤ pos (text_width h.whole)) h.after low high (omega (arith, ints, end, wider)) in
    cut ∙ sym (whole ∙ last)

say_texts-long : (row : Row) (column : ℤ) (ts : List (List ℕ)) (low high : ℕ) → pos high <ℤ (column +ℤ pos (texts_width ts))
    → say_texts row column ts low high ≡ put (put_texts row column ts low high) (pos high -ℤ pos 1) ellipsis low high
unfolding say_texts
say_texts-long row column ts low high h = let e : int_lt (pos high) (column +ℤ pos (texts_width ts)) ≡ true = grind (arith, ints) in rw e refl

say_texts-cut : (row : Row) (column : ℤ) (columns : ℕ) (ts us : List (List ℕ)) (low high : ℕ) → IsCut columns ts us → pos high ≤ℤ (column +ℤ pos columns)
    → say_texts row column ts low high ≡ say_texts row column us low high
say_texts-cut row column columns ts us low high h reaches =
    let wide = cut-wide columns ts us h in
    let wider = cut-narrower columns ts us h in
    say_texts-long row column ts low high (omega (arith, ints, reaches, wide))
    ∙ ap (λ r. put r (pos high -ℤ pos 1) ellipsis low high) (put_texts-cut row column columns ts us low high h reaches)
    ∙ sym (say_texts-long row column us low high (omega (arith, ints, reaches, wide, wider)))

-- ---- the rows of the screen

max-right : (a b : ℤ) → b ≤ℤ int_max a b
max-right a b = omega (arith, places)

-- what is in sight begins on the screen
reach-begins : (s : Sight) → s.rect.x ≤ℤ (reach s).x
unfolding reach rect_between
reach-begins s = max-right _ s.rect.x

-- the last column in sight is no further than the columns that the cut texts fill
limit-reached : (s : Sight) (x : ℤ) → pos (limit s.rect (end_x_of (reach s))) ≤ℤ ((x -ℤ s.rect.x) +ℤ pos (or_zero (end_x_of (reach s) -ℤ x)))
limit-reached s x = let begins = reach-begins s in go (end_x_of (reach s)) s.rect.x s.rect.width (omega (arith, places, begins))
  where
    go : (end from : ℤ) (width : ℕ) → from ≤ℤ end → pos (min width (or_zero (end -ℤ from))) ≤ℤ ((x -ℤ from) +ℤ pos (or_zero (end -ℤ x)))
    go end from width h = omega (arith, places)

texts_puts-hidden : (m : Rect) (x y : ℤ) (ts : List (List ℕ)) → has_row m y ≡ false → texts_puts m x y ts ≡ []
texts_puts-hidden m x y [] e = texts_puts-none m x y [] refl
texts_puts-hidden m x y (t ∷ ts) e =
    texts_puts-more m x y t ts (t ∷ ts) refl ∙ ap₂ (λ ps qs. ps ++ qs) (text_puts-hidden m x y t e) (texts_puts-hidden m (x +ℤ pos (text_width t)) y ts e)

picture-hidden : (s : Sight) (x y : ℤ) (ts : List (List ℕ)) → has_row (reach s) y ≡ false → (text_picture {K = ComponentId} s x y ts).puts ≡ []
unfolding text_picture followed_by line_picture span_picture nothing
picture-hidden s x y ts e = go (int_lt (end_x_of (reach s)) (x +ℤ pos (texts_width ts)))
  where
    go : (b : Bool) → texts_puts (reach s) x y ts ++ (if b then span_picture {K = ComponentId} s (end_x_of (reach s) -ℤ pos 1) y ellipsis else nothing).puts ≡ []
    go true = ap₂ (λ ps qs. ps ++ qs) (texts_puts-hidden (reach s) x y ts e) (text_puts-hidden (reach s) (end_x_of (reach s) -ℤ pos 1) y ellipsis e)
    go false = ap (λ ps. ps ++ []) (texts_puts-hidden (reach s) x y ts e)

-- a row alone
row-alone : (z : ℤ) → has_row (row_rect (pos 0) z 1) z ≡ true
row-alone z = grind (arith, ints)

paint-cut : (s : Sight) (x y : ℤ) (ts us : List (List ℕ)) → IsCut (or_zero (end_x_of (reach s) -ℤ x)) ts us → (z : ℤ) (row : Row)
    → paint s.rect (text_picture {K = ComponentId} s x y ts).puts z row ≡ paint s.rect (text_picture {K = ComponentId} s x y us).puts z row
paint-cut s x y ts us h z row = go (has_row (reach s) y) refl
  where
    seen : Rect
    seen = row_rect (pos 0) z 1

    go : (b : Bool) → has_row (reach s) y ≡ b → paint s.rect (text_picture {K = ComponentId} s x y ts).puts z row ≡ paint s.rect (text_picture {K = ComponentId} s x y us).puts z row
    go false e = ap (λ ps. paint s.rect ps z row) (picture-hidden s x y ts e ∙ sym (picture-hidden s x y us e))
    go true e =
        one_said ComponentId seen s x y ts (λ _. e) z row (row-alone z)
        ∙ ap (λ r. cond (int_eq z y) r row) (say_texts-cut row (x -ℤ s.rect.x) _ ts us (limit s.rect (reach s).x) (limit s.rect (end_x_of (reach s))) h (limit-reached s x))
        ∙ sym (one_said ComponentId seen s x y us (λ _. e) z row (row-alone z))

painted-alike : (v : Rect) (ps qs : List Put) (z : ℤ) (rows : List Row) → ((k : ℤ) (row : Row) → paint v ps k row ≡ paint v qs k row) → paint_rows v ps z rows ≡ paint_rows v qs z rows
unfolding paint_rows
painted-alike v ps qs z [] h = refl
painted-alike v ps qs z (row ∷ rows) h = ap₂ (λ r rs. r ∷ rs) (h z row) (painted-alike v ps qs (z +ℤ pos 1) rows h)

-- ---- the canvas

pub shown-drawn : (c : Canvas ComponentId) (x y : ℤ) (ts us : List (List ℕ)) → ShowsFrom c x ts us → with_picture c (text_picture c.sight x y ts) ≡ with_picture c (text_picture c.sight x y us)
unfolding with_picture
shown-drawn c x y ts us (inl same) = ap (λ t. with_picture c (text_picture c.sight x y t)) same
shown-drawn c x y ts us (inr (none, h)) =
    canvas-same _ _ refl (painted-alike c.sight.rect _ _ c.sight.rect.y c.rows (paint-cut c.sight x y ts us h)) (rw none refl) (rw none refl)

-- the texts that are cut are in range if the whole ones are
rect-narrower : (x y : ℤ) (n m : ℕ) → n ≤ m → RectInRange (row_rect x y m) → RectInRange (row_rect x y n)
rect-narrower x y n m le r = record { x = r.x; end_x = record { low = omega (arith, ints, r.x.low); high = omega (arith, ints, r.end_x.high, le) }; y = r.y; end_y = r.end_y }

line-narrower : (s : Sight) (x y : ℤ) (ts us : List (List ℕ)) → texts_width ts ≤ texts_width us → PictureInRange {K = ComponentId} (line_picture s x y us) → PictureInRange {K = ComponentId} (line_picture s x y ts)
unfolding line_picture
line-narrower s x y ts us le r = record { areas = (rect-narrower x y (texts_width ts) (texts_width us) le r.areas.0, tt) }

picture-long : (s : Sight) (x y : ℤ) (ts : List (List ℕ)) → end_x_of (reach s) <ℤ (x +ℤ pos (texts_width ts))
    → text_picture {K = ComponentId} s x y ts ≡ followed_by (line_picture s x y ts) (span_picture s (end_x_of (reach s) -ℤ pos 1) y ellipsis)
unfolding text_picture
picture-long s x y ts h = let e : int_lt (end_x_of (reach s)) (x +ℤ pos (texts_width ts)) ≡ true = grind (arith, ints) in rw e refl

past-end : (end x : ℤ) (n : ℕ) → or_zero (end -ℤ x) < n → end <ℤ (x +ℤ pos n)
past-end end x n h = omega (arith, places)

pub shown-in-range : (c : Canvas ComponentId) (x y : ℤ) (ts us : List (List ℕ)) → ShowsFrom c x ts us → PictureInRange {K = ComponentId} (text_picture c.sight x y us)
    → PictureInRange {K = ComponentId} (text_picture c.sight x y ts)
shown-in-range c x y ts us (inl same) r = rw same r
shown-in-range c x y ts us (inr (none, h)) r =
    let narrower = cut-narrower _ ts us h in
    let wide = cut-wide _ ts us h in
    let end = end_x_of (reach c.sight) in
    let short = past-end end x (texts_width ts) wide in
    let long = past-end end x (texts_width us) (omega (arith, wide, narrower)) in
    let whole = rw (picture-long c.sight x y us long) at r in
    rw (picture-long c.sight x y ts short)
    (PictureInRange-followed _ _ (line-narrower c.sight x y ts us narrower (PictureInRange-left _ _ whole)) (PictureInRange-right _ _ whole))

-- ---- behind a line's number or sign

pub one-span : (none spans : List Span) (span : Span) → none ≡ [] → spans ≡ none ++ span ∷ [] → span_texts spans ≡ span.0.now ∷ []
one-span none spans span e pushed = ap span_texts (pushed ∙ ap (λ t. t ++ span ∷ []) e)

pub shown-behind : (c : Canvas ComponentId) (x : ℤ) (front : List ℕ) (old new us : List (List ℕ)) → old ≡ front ∷ [] → AddsVisible c x old new us → ShowsFrom c x new (front ∷ us)
shown-behind c x front old new us e h = go h.texts (h.added ∙ ap (λ t. t ++ h.texts) e) h.shown
  where
    go : (ts : List (List ℕ)) → new ≡ front ∷ ts → ShowsFrom c x ts us → ShowsFrom c x new (front ∷ us)
    go ts added (inl same) = inl (added ∙ ap (λ t. front ∷ t) same)
    go ts added (inr (none, cut)) = inr (
      none,
      record {
        front = front ∷ cut.front;
        last = cut.last;
        whole = cut.whole;
        after = cut.after;
        more = cut.more;
        cut = added ∙ ap (λ t. front ∷ t) cut.cut;
        texts = ap (λ t. front ∷ t) cut.texts;
        begins = cut.begins;
        wide = omega (arith, cut.wide, ap (sum_by text_width) added, sum_by-cons text_width front ts);
      },
    )

pub visible-whole : (c : Canvas ComponentId) (x : ℤ) (old new us : List (List ℕ)) → new ≡ old ++ us → AddsVisible c x old new us
visible-whole c x old new us e = record { texts = us; added = e; shown = inl refl }

pub visible-cut : (c : Canvas ComponentId) (x : ℤ) (columns : ℕ) (old new us : List (List ℕ)) → c.boxes ≡ None → columns ≡ or_zero (end_x_of (reach c.sight) -ℤ x) → Adds columns old new us → AddsVisible c x old new us
visible-cut c x columns old new us none e h = go h.shown
  where
    go : (h.texts ≡ us) ⊎ IsCut columns h.texts us → AddsVisible c x old new us
    go (inl same) = record { texts = h.texts; added = h.added; shown = inl same }
    go (inr cut) = record { texts = h.texts; added = h.added; shown = inr (none, rw e at cut) }
