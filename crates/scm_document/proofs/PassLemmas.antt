-- Rows off the screen, which drawing passes over where no boxes are kept.
use Rattle.std.proofs.Common.{◌≡◌, ℕ, suc, ◌+◌, ◌-◌, ◌<◌, ◌≤◌, List, [], ◌∷◌, ◌++◌, length, append_assoc, take, drop, get_or, refl, sym, ap, ap₂, ◌∙◌, arith, true, false, FitsSigned, w64}
use Rattle.std.specs.Prelude.{ℤ, pos, ◌+ℤ◌, ◌<ℤ◌, ◌≤ℤ◌, Option, Some, None, if◌then◌else◌}
use Rattle.std.specs.Option.{is_some}
use Rattle.std.proofs.lemmas.List.{drop_all, drop_more, get_or-take, length-take, length-drop, take-append-drop}
use Rattle.scm_cells.proofs.RectLemmas.{places}
use Rattle.scm_cells.specs.Rect.{end_y_of}
use Rattle.std.proofs.lemmas.Int.{ints}
use Rattle.scm_cells.specs.Counts.{Counts, no_counts, plus, added}
use Rattle.scm_cells.specs.declared.rect.Rect.{Rect}
use Rattle.scm_render.specs.Picture.{Put, Box, PictureInRange, nothing, followed_by, covering, part}
use Rattle.scm_render.specs.Canvas.{Row, Sight, Canvas, kept, paint, with_picture, under}
use Rattle.scm_render.specs.ToDraw.{rows_above, first_to_draw, end_to_draw}
use Rattle.scm_render.specs.Drawing.{reach, has_row, row_rect, span_picture, text_picture, blank_picture}
use Rattle.scm_render.proofs.CanvasLemmas.{with_picture-rows, with_picture-boxes, with_picture-nothing, with_picture-then, with_picture-passed}
use Rattle.scm_render.proofs.StepLemmas.{sight-after}
use Rattle.scm_render.proofs.PaintLemmas.{paint-none, paint-append, length-painted}
use Rattle.scm_render.proofs.PictureLemmas.{PictureInRange-left, PictureInRange-right}
use Rattle.scm_render.proofs.RowLemmas.{OneRow, not_seen, one_text, one_said}
use Rattle.scm_render.proofs.FillLemmas.{one_blank}
use Rattle.scm_widgets.specs.declared.ids.ComponentId.{ComponentId}
use Rattle.scm_document.specs.Rows.{Heading, DocRow, HeaderRow, SectionRow, LineRow, MarkRow, ContextRow, DotsRow, BlankRow, section_height, section_rows}
use Rattle.scm_widgets.specs.Pictures.{box_picture, fold_column, to_end}
use Rattle.scm_document.specs.Pictures.{heading_picture, title_picture, changed_picture, context_picture, heading_mask, heading_width, row_picture, rows_picture}
use Rattle.scm_document.specs.Counts.{row_counts, rows_counts}
use Rattle.scm_document.proofs.RowsLemmas.{rows_picture-append, rows-fit}
use Rattle.scm_document.specs.declared.section_view.SectionView.{SectionView}
use Rattle.scm_document.proofs.SectionsLemmas.{section-size}
use Rattle.scm_document.proofs.CountLemmas.{plus-none, none-plus, rows_counts-append}
use Rattle.scm_widgets.proofs.HiddenLemmas.{painted-same, on-screen, no-reach, on_row-hidden}
use Rattle.scm_document.proofs.StripLemmas.{no-highlight}

-- ---- a row off the screen

-- the puts change no row of the screen
abbrev pub LeavesRows : Rect → List Put → Type 0
LeavesRows v ps = (z : ℤ) (row : Row) → has_row v z ≡ true → paint v ps z row ≡ row

leaves-none : (v : Rect) → LeavesRows v []
leaves-none v z row h = paint-none v z row

leaves-both : (v : Rect) (ps qs : List Put) → LeavesRows v ps → LeavesRows v qs → LeavesRows v (ps ++ qs)
leaves-both v ps qs p q z row h = paint-append v ps qs z row ∙ q z (paint v ps z row) h ∙ p z row h

leaves-one : (v : Rect) (y : ℤ) (ps : List Put) (f : Row → Row) → has_row v y ≡ false → OneRow v v y ps f → LeavesRows v ps
leaves-one v y ps f e one z row seen = rw (not_seen v y e z seen) at (one z row seen)

leaves-span : (s : Sight) (x y : ℤ) (t : List ℕ) → has_row s.rect y ≡ false → LeavesRows s.rect (span_picture {K = ComponentId} s x y t).puts
unfolding span_picture
leaves-span s x y t e = leaves-one s.rect y _ _ e (one_text s.rect s.rect (reach s) x y t (no-reach s.rect (reach s) y e))

leaves-text : (s : Sight) (x y : ℤ) (ts : List (List ℕ)) → has_row s.rect y ≡ false → LeavesRows s.rect (text_picture {K = ComponentId} s x y ts).puts
leaves-text s x y ts e = leaves-one s.rect y _ _ e (one_said ComponentId s.rect s x y ts (no-reach s.rect (reach s) y e))

leaves-blank : (s : Sight) (x y : ℤ) (n : ℕ) → has_row s.rect y ≡ false → LeavesRows s.rect (blank_picture {K = ComponentId} s (row_rect x y n)).puts
leaves-blank s x y n e = leaves-one s.rect y _ _ e (one_blank ComponentId s.rect s.rect s x y n (no-reach s.rect (reach s) y e))

leaves-heading : (h : Heading) (s : Sight) (x y : ℤ) → has_row s.rect y ≡ false → LeavesRows s.rect (heading_picture h s x y).puts
unfolding heading_picture title_picture followed_by part box_picture
leaves-heading h s x y e =
    let m : Sight = under (heading_mask s x y) s in
    leaves-both s.rect _ _ (leaves-span s (fold_column s) y _ e)
    (leaves-both s.rect _ _ (leaves-blank m x y (heading_width s x) e)
    (leaves-both s.rect _ _ (leaves-span m x y _ e) (leaves-text m (x +ℤ pos 4) y (h.title ∷ []) e)))

leaves-row : (r : DocRow) (s : Sight) (x y : ℤ) → has_row s.rect y ≡ false → LeavesRows s.rect (row_picture r s x y).puts
unfolding row_picture followed_by part covering changed_picture context_picture box_picture
leaves-row (HeaderRow key h) s x y e = leaves-heading h s x y e
leaves-row (SectionRow selected h) s x y e = rw (no-highlight selected s y) (leaves-both s.rect _ [] (leaves-heading h s x y e) (leaves-none s.rect))
leaves-row (LineRow key b ts) s x y e = leaves-both s.rect _ _ (leaves-span s (x +ℤ pos 2) y _ e) (leaves-text s ((x +ℤ pos 2) +ℤ pos 4) y ts e)
leaves-row (MarkRow selected b t) s x y e =
    rw (no-highlight selected s y) (leaves-both s.rect _ _ (leaves-span s x y _ e) (leaves-both s.rect _ [] (leaves-text s (x +ℤ pos 4) y (t ∷ []) e) (leaves-none s.rect)))
leaves-row (ContextRow key ts) s x y e = leaves-text s (x +ℤ pos 2) y ts e
leaves-row (DotsRow t) s x y e = leaves-span s (x +ℤ pos 6) y t e
leaves-row BlankRow s x y e = leaves-blank s x y (to_end s x) e

-- ---- rows that are passed over

-- `n` rows from row `y` on may be passed over: there are none, or no boxes are kept and the screen shows none of the rows
abbrev pub ArePassed : Canvas ComponentId → ℤ → ℕ → Type 0
ArePassed c y n = (k : ℕ) → k < n → (c.boxes ≡ None) × (has_row c.sight.rect (y +ℤ pos k) ≡ false)

passed-first : (c : Canvas ComponentId) (y : ℤ) (n : ℕ) → ArePassed c y (suc n) → (c.boxes ≡ None) × (has_row c.sight.rect y ≡ false)
passed-first c y n h =
    let same : y ≡ y +ℤ pos 0 = omega (arith, ints) in
    let first = h 0 (omega arith) in
    (first.0, ap (has_row c.sight.rect) same ∙ first.1)

passed-rest : (c : Canvas ComponentId) (y : ℤ) (n : ℕ) → ArePassed c y (suc n) → ArePassed c (y +ℤ pos 1) n
passed-rest c y n h k l =
    let same : (y +ℤ pos 1) +ℤ pos k ≡ y +ℤ pos (suc k) = omega (arith, ints) in
    let next = h (suc k) (omega (arith, l)) in
    (next.0, ap (has_row c.sight.rect) same ∙ next.1)

rows-passed : (rs : List DocRow) (c : Canvas ComponentId) (x y : ℤ) → length c.rows ≡ c.sight.rect.height → ArePassed c y (length rs) → with_picture c (rows_picture rs c.sight x y) ≡ c
unfolding rows_picture
rows-passed [] c x y n h = with_picture-nothing c
rows-passed (r ∷ rs) c x y n h =
    let first = passed-first c y (length rs) h in
    let one : with_picture c (row_picture r c.sight x y) ≡ c =
    with_picture-passed c (row_picture r c.sight x y) first.0
    (painted-same c.sight.rect _ c.sight.rect.y c.rows (λ k row l. leaves-row r c.sight x y first.1 (c.sight.rect.y +ℤ pos k) row (on-screen c.sight.rect k (omega (arith, n))))) in
    sym (with_picture-then c (row_picture r c.sight x y) (rows_picture rs c.sight x (y +ℤ pos 1)))
    ∙ ap (λ d. with_picture d (rows_picture rs c.sight x (y +ℤ pos 1))) one
    ∙ rows-passed rs c x (y +ℤ pos 1) n (passed-rest c y (length rs) h)

rows-uncounted : (rs : List DocRow) (c : Canvas ComponentId) (y : ℤ) → ArePassed c y (length rs) → rows_counts rs c.sight.rect y ≡ no_counts
unfolding rows_counts
rows-uncounted [] c y h = refl
rows-uncounted (r ∷ rs) c y h =
    let first : row_counts r c.sight.rect y ≡ no_counts = on_row-hidden c.sight.rect y _ (passed-first c y (length rs) h).1 in
    ap₂ plus first (rows-uncounted rs c (y +ℤ pos 1) (passed-rest c y (length rs) h))

before-screen : (v : Rect) (y : ℤ) → y <ℤ v.y → has_row v y ≡ false
before-screen v y h = grind (arith, ints, h)

behind-screen : (v : Rect) (y : ℤ) → end_y_of v ≤ℤ y → has_row v y ≡ false
behind-screen v y h = grind (arith, ints, h)

-- of n rows from row y on, those before the first one to draw, and those behind the last
passed-above-by : (b : Option (List (Box ComponentId))) (v : Rect) (y : ℤ) (n first : ℕ) → first ≡ (if is_some b then 0 else rows_above y v.y n)
    → (k : ℕ) → k < first → (b ≡ None) × (has_row v (y +ℤ pos k) ≡ false)
passed-above-by None v y n first e k l = (refl, before-screen v (y +ℤ pos k) (omega (arith, places, e, l)))
passed-above-by (Some bs) v y n first e k l = absurd (omega (arith, e, l))

passed-below-by : (b : Option (List (Box ComponentId))) (v : Rect) (y : ℤ) (n end : ℕ) → end ≡ (if is_some b then n else rows_above y (end_y_of v) n)
    → (k : ℕ) → k < n - end → (b ≡ None) × (has_row v ((y +ℤ pos end) +ℤ pos k) ≡ false)
passed-below-by None v y n end e k l = (refl, behind-screen v ((y +ℤ pos end) +ℤ pos k) (omega (arith, places, e, l)))
passed-below-by (Some bs) v y n end e k l = absurd (omega (arith, e, l))

-- ---- rows of which only a range is drawn

-- where rows are cut, and how long the parts are
pub record AreCut (first end n : ℕ) : Type 0 where
  pub low : first ≤ end
  pub high : end ≤ n

-- the rows first..end
abbrev pub rows_among : List DocRow → ℕ → ℕ → List DocRow
rows_among rs first end = drop first (take end rs)

rows-cut : (rs : List DocRow) (first end : ℕ) → rs ≡ take first (take end rs) ++ (rows_among rs first end ++ drop end rs)
rows-cut rs first end =
    sym (take-append-drop end rs) ∙ ap (λ qs. qs ++ drop end rs) (sym (take-append-drop first (take end rs)))
    ∙ append_assoc (take first (take end rs)) (rows_among rs first end) (drop end rs)

length-above : (rs : List DocRow) (first end : ℕ) → AreCut first end (length rs) → length (take first (take end rs)) ≡ first
length-above rs first end a = length-take first (take end rs) ∙ omega (arith, a.low, a.high, length-take end rs)

length-among : (rs : List DocRow) (first end : ℕ) → AreCut first end (length rs) → length (rows_among rs first end) ≡ end - first
length-among rs first end a = length-drop first (take end rs) ∙ omega (arith, a.low, a.high, length-take end rs)

cut-end : (y : ℤ) (first end n : ℕ) → n ≡ end - first → first ≤ end → (y +ℤ pos first) +ℤ pos n ≡ y +ℤ pos end
cut-end y first end n e h = omega (arith, ints, e, h)

rows-picture : (rs : List DocRow) (s : Sight) (x y : ℤ) (first end : ℕ) → AreCut first end (length rs)
    → rows_picture rs s x y
    ≡ followed_by (rows_picture (take first (take end rs)) s x y)
    (followed_by (rows_picture (rows_among rs first end) s x (y +ℤ pos first)) (rows_picture (drop end rs) s x (y +ℤ pos end)))
rows-picture rs s x y first end a =
    let up = take first (take end rs) in
    let mid = rows_among rs first end in
    let low = drop end rs in
    ap (λ qs. rows_picture qs s x y) (rows-cut rs first end) ∙ rows_picture-append up (mid ++ low) s x y
    ∙ ap (λ n. followed_by (rows_picture up s x y) (rows_picture (mid ++ low) s x (y +ℤ pos n))) (length-above rs first end a)
    ∙ ap (followed_by (rows_picture up s x y)) (rows_picture-append mid low s x (y +ℤ pos first)
    ∙ ap (λ z. followed_by (rows_picture mid s x (y +ℤ pos first)) (rows_picture low s x z)) (cut-end y first end (length mid) (length-among rs first end a) a.low))

rows-counts : (rs : List DocRow) (r : Rect) (y : ℤ) (first end : ℕ) → AreCut first end (length rs)
    → rows_counts rs r y
    ≡ plus (rows_counts (take first (take end rs)) r y) (plus (rows_counts (rows_among rs first end) r (y +ℤ pos first)) (rows_counts (drop end rs) r (y +ℤ pos end)))
rows-counts rs r y first end a =
    let up = take first (take end rs) in
    let mid = rows_among rs first end in
    let low = drop end rs in
    ap (λ qs. rows_counts qs r y) (rows-cut rs first end) ∙ rows_counts-append up (mid ++ low) r y
    ∙ ap (λ n. plus (rows_counts up r y) (rows_counts (mid ++ low) r (y +ℤ pos n))) (length-above rs first end a)
    ∙ ap (plus (rows_counts up r y)) (rows_counts-append mid low r (y +ℤ pos first)
    ∙ ap (λ z. plus (rows_counts mid r (y +ℤ pos first)) (rows_counts low r z)) (cut-end y first end (length mid) (length-among rs first end a) a.low))

cut-by : (b : Option (List (Box ComponentId))) (v : Rect) (y : ℤ) (n first end : ℕ) → first ≡ (if is_some b then 0 else rows_above y v.y n) → end ≡ (if is_some b then n else rows_above y (end_y_of v) n)
    → AreCut first end n
cut-by None v y n first end p q = record { low = omega (arith, places, p, q); high = omega (arith, places, q) }
cut-by (Some bs) v y n first end p q = record { low = omega (arith, p); high = omega (arith, q) }

-- the rows first..end are those to draw of n rows from row y on
pub record AreToDraw (c : Canvas ComponentId) (y : ℤ) (n first end : ℕ) : Type 0 where
  pub start : first ≡ first_to_draw c y n
  pub stop : end ≡ end_to_draw c y n

pub to-draw : (v : SectionView) (c : Canvas ComponentId) (y : ℤ) (n first end : ℕ) → n ≡ section_height v v.section.now → first ≡ first_to_draw c y n → end ≡ end_to_draw c y n
    → AreToDraw c y (length (section_rows v)) first end
to-draw v c y n first end e p q = rw (section-size v, sym e) (record { start = p; stop = q })

pub cut-at : (c : Canvas ComponentId) (y : ℤ) (n first end : ℕ) → AreToDraw c y n first end → AreCut first end n
cut-at c y n first end a = cut-by c.boxes c.sight.rect y n first end a.start a.stop

pub among-in : (rs : List DocRow) (s : Sight) (x y : ℤ) (first end : ℕ) → AreCut first end (length rs)
    → PictureInRange (rows_picture rs s x y) → PictureInRange (rows_picture (rows_among rs first end) s x (y +ℤ pos first))
among-in rs s x y first end a r = PictureInRange-left _ _ (PictureInRange-right _ _ (rw (rows-picture rs s x y first end a) at r))

pub among-fits : (rs : List DocRow) (s : Sight) (x y : ℤ) (first end : ℕ) → AreCut first end (length rs) → FitsSigned w64 y
    → PictureInRange (rows_picture rs s x y) → FitsSigned w64 (y +ℤ pos first)
among-fits rs s x y first end a f r =
    rw (length-above rs first end a) at (rows-fit (take first (take end rs)) s x y f (PictureInRange-left _ _ (rw (rows-picture rs s x y first end a) at r)))

among-more : (rs : List DocRow) (i end : ℕ) → i < end → end ≤ length rs → rows_among rs i end ≡ get_or rs i BlankRow ∷ rows_among rs (i + 1) end
among-more rs i end h e =
    drop_more (take end rs) i BlankRow (omega (arith, h, e, length-take end rs)) ∙ ap (λ r. r ∷ rows_among rs (i + 1) end) (get_or-take end rs i BlankRow h)

among-end : (rs : List DocRow) (i end : ℕ) → end ≤ i → rows_among rs i end ≡ []
among-end rs i end h = drop_all i (take end rs) (omega (arith, h, length-take end rs))

-- the first of these rows, and those below it
pub picture-more : (rs : List DocRow) (i end : ℕ) (s : Sight) (x y : ℤ) → i < end → end ≤ length rs
    → rows_picture (rows_among rs i end) s x y ≡ followed_by (row_picture (get_or rs i BlankRow) s x y) (rows_picture (rows_among rs (i + 1) end) s x (y +ℤ pos 1))
unfolding rows_picture
picture-more rs i end s x y h e = rw (among-more rs i end h e) refl

pub picture-end : (rs : List DocRow) (i end : ℕ) (s : Sight) (x y : ℤ) → end ≤ i → rows_picture (rows_among rs i end) s x y ≡ nothing
unfolding rows_picture
picture-end rs i end s x y h = rw (among-end rs i end h) refl

pub counted-more : (rs : List DocRow) (i end : ℕ) (r : Rect) (y : ℤ) → i < end → end ≤ length rs
    → rows_counts (rows_among rs i end) r y ≡ plus (row_counts (get_or rs i BlankRow) r y) (rows_counts (rows_among rs (i + 1) end) r (y +ℤ pos 1))
unfolding rows_counts
counted-more rs i end r y h e = rw (among-more rs i end h e) refl

pub counted-end : (rs : List DocRow) (i end : ℕ) (r : Rect) (y : ℤ) → end ≤ i → rows_counts (rows_among rs i end) r y ≡ no_counts
unfolding rows_counts
counted-end rs i end r y h = rw (among-end rs i end h) refl

kept-none : (bs : Option (List (Box ComponentId))) (cs : List (Box ComponentId)) → bs ≡ None → kept bs cs ≡ None
kept-none bs cs e = rw e refl

-- the rows to draw are drawn, and the others passed over
pub rows-drawn : (c d : Canvas ComponentId) (rs : List DocRow) (x y : ℤ) (first end : ℕ) → length c.rows ≡ c.sight.rect.height
    → AreToDraw c y (length rs) first end → d ≡ with_picture c (rows_picture (rows_among rs first end) c.sight x (y +ℤ pos first)) → d ≡ with_picture c (rows_picture rs c.sight x y)
rows-drawn c d rs x y first end n g h =
    let r = c.sight.rect in
    let a = cut-at c y (length rs) first end g in
    let up = rows_picture (take first (take end rs)) c.sight x y in
    let mid = rows_picture (rows_among rs first end) c.sight x (y +ℤ pos first) in
    let low = rows_picture (drop end rs) c.sight x (y +ℤ pos end) in
    let same : d.sight ≡ c.sight = sight-after c d mid h in
    let rows : length d.rows ≡ c.sight.rect.height = ap (λ (e : Canvas ComponentId). length e.rows) h ∙ ap length (with_picture-rows c mid) ∙ length-painted r mid.puts r.y c.rows ∙ n in
    let boxes : d.boxes ≡ kept c.boxes mid.boxes = ap (λ (e : Canvas ComponentId). e.boxes) h ∙ with_picture-boxes c mid in
    let above : ArePassed c y (length (take first (take end rs))) = rw (length-above rs first end a) (passed-above-by c.boxes r y (length rs) first g.start) in
    let below : ArePassed d (y +ℤ pos end) (length (drop end rs)) =
    rw (length-drop end rs) (λ k l. let off = passed-below-by c.boxes r y (length rs) end g.stop k l in (boxes ∙ kept-none c.boxes mid.boxes off.0, ap (λ (s : Sight). has_row s.rect ((y +ℤ pos end) +ℤ pos k)) same ∙ off.1)) in
    let first_part : with_picture c up ≡ c = rows-passed (take first (take end rs)) c x y n above in
    let last_part : with_picture d low ≡ d =
    ap (λ s. with_picture d (rows_picture (drop end rs) s x (y +ℤ pos end))) (sym same) ∙ rows-passed (drop end rs) d x (y +ℤ pos end) (rw same rows) below in
    sym last_part ∙ ap (λ e. with_picture e low) h ∙ with_picture-then c mid low ∙ ap (λ e. with_picture e (followed_by mid low)) (sym first_part)
    ∙ with_picture-then c up (followed_by mid low) ∙ ap (with_picture c) (sym (rows-picture rs c.sight x y first end a))

pub rows-counted : (e : Canvas ComponentId) (c d : Counts) (rs : List DocRow) (y : ℤ) (first end : ℕ)
    → AreToDraw e y (length rs) first end → d ≡ added c (rows_counts (rows_among rs first end) e.sight.rect (y +ℤ pos first)) → d ≡ added c (rows_counts rs e.sight.rect y)
rows-counted e c d rs y first end g h =
    let r = e.sight.rect in
    let a = cut-at e y (length rs) first end g in
    let above : ArePassed e y (length (take first (take end rs))) = rw (length-above rs first end a) (passed-above-by e.boxes r y (length rs) first g.start) in
    let below : ArePassed e (y +ℤ pos end) (length (drop end rs)) = rw (length-drop end rs) (passed-below-by e.boxes r y (length rs) end g.stop) in
    let mid = rows_counts (rows_among rs first end) r (y +ℤ pos first) in
    let all : rows_counts rs r y ≡ mid =
    rows-counts rs r y first end a
    ∙ ap₂ plus (rows-uncounted (take first (take end rs)) e y above) (ap (plus mid) (rows-uncounted (drop end rs) e (y +ℤ pos end) below) ∙ plus-none mid)
    ∙ none-plus mid in
    h ∙ ap (added c) (sym all)
