-- On which rows and columns the boxes of rows, sections and files lie that are drawn in an area.
use Rattle.std.proofs.Common.{◌≡◌, ℕ, zero, suc, ◌+◌, ◌-◌, ◌<◌, ◌≤◌, ◌==◌, max, Bool, true, false, List, [], ◌∷◌, ◌++◌, length, length-append, append-nil, map, fold, refl, sym, ap, ap₂, subst, ◌∙◌, arith}
use Rattle.std.specs.Prelude.{ℤ, pos, ◌+ℤ◌, ◌-ℤ◌, ◌≤ℤ◌, ◌<ℤ◌, ◌||◌, int_lt, if◌then◌else◌}
use Rattle.std.specs.Int.{int_min, int_max}
use Rattle.std.proofs.lemmas.Int.{ints, clamps}
use Rattle.std.proofs.lemmas.List.{map-append}
use Rattle.std.proofs.lemmas.List.Sums.{fold-append}
use Rattle.scm_cells.specs.Clusters.{text_width}
use Rattle.scm_cells.specs.Row.{ellipsis}
use Rattle.scm_cells.specs.Rect.{end_x_of, is_empty}
use Rattle.scm_cells.specs.declared.rect.Rect.{Rect}
use Rattle.scm_cells.proofs.RectLemmas.{places}
use Rattle.scm_cells.proofs.WidthLemmas.{width-ellipsis}
use Rattle.scm_render.specs.Around.{join, no_rect}
use Rattle.scm_render.specs.Canvas.{Sight}
use Rattle.scm_render.specs.Drawing.{reach, row_rect, texts_width, line_picture, span_picture, text_picture, blank_picture}
use Rattle.scm_render.specs.Picture.{nothing, followed_by, covering, part, box_rect}
use Rattle.scm_render.proofs.AroundLemmas.{around-one, join-assoc}
use Rattle.scm_render.proofs.SpanLemmas.{join-end_x, join-end_y, join-x, join-y, join_none, not_empty}
use Rattle.scm_widgets.specs.declared.ids.ComponentId.{ComponentId}
use Rattle.scm_widgets.specs.declared.ids.ComponentId.TheVariants as ids
use Rattle.scm_widgets.specs.Boxes.{IdBox}
use Rattle.scm_widgets.specs.Pictures.{IdPicture, box_part, fold_column, highlight, rest_of_row, whole_row}
use Rattle.scm_widgets.proofs.DrawsStrips.{box-followed, box-part}
use Rattle.scm_widgets.proofs.MenuLemmas.{not-empty}
use Rattle.scm_document.specs.Pictures.{changed_picture, context_picture, heading_picture, heading_width, row_picture, rows_picture, sections_picture, shown_file_picture, title_picture}
use Rattle.scm_document.specs.Rows.{Heading, DocRow, HeaderRow, SectionRow, LineRow, MarkRow, ContextRow, DotsRow, BlankRow, ShownSection, ShownFile, line_id, section_id, sections_rows, file_rows}
use Rattle.scm_document.specs.Strips.{is_whole, is_wide}
use Rattle.scm_document.proofs.BoxLemmas.{left_of}
use Rattle.scm_document.proofs.FilesOf.{HaveRows}
use Rattle.scm_document.proofs.StripLemmas.{AreInner, AreInnerSections, beside_fold, column_of}
use Rattle.scm_strips.specs.declared.area.Area.{Area}
use Rattle.scm_strips.specs.Parts.{end_of_texts, row_reach}
use Rattle.scm_strips.specs.Shows.{end_column, title_column}
use Rattle.scm_beside_laws.proofs.DrawnWidthLemmas.{box-blank, box-empty, box-of, box-text, box-texts}
use Rattle.scm_beside_laws.proofs.SeenLemmas.{IsSeen, end-of, fold-at, heading-between, heading-columns}

-- ---- rectangles by their rows and columns

-- the rectangle has n rows from row y on, and the columns from f to t
pub record Lies (r : Rect) (y : ℤ) (n : ℕ) (f t : ℤ) : Type 0 where
  pub top : r.y ≡ y
  pub rows : r.height ≡ n
  pub left : r.x ≡ f
  pub right : end_x_of r ≡ t

lies-some : (r : Rect) (y : ℤ) (n : ℕ) (f t : ℤ) → 0 < n → f <ℤ t → Lies r y n f t → is_empty r ≡ false
lies-some r y n f t some wide h = not_empty r (omega (arith, ints, wide, h.left, h.right)) (omega (arith, some, h.rows))

pub lies-as : (r : Rect) (y : ℤ) (n m : ℕ) (f g t u : ℤ) → n ≡ m → f ≡ g → t ≡ u → Lies r y n f t → Lies r y m g u
lies-as r y n m f g t u a b c h = record { top = h.top; rows = h.rows ∙ a; left = h.left ∙ b; right = h.right ∙ c }

-- two of the same rows
lies-beside : (a b : Rect) (y : ℤ) (n : ℕ) (f t g u : ℤ) → 0 < n → f <ℤ t → g <ℤ u → Lies a y n f t → Lies b y n g u → Lies (join a b) y n (int_min f g) (int_max t u)
lies-beside a b y n f t g u some wide broad ha hb =
    let p = lies-some a y n f t some wide ha in
    let q = lies-some b y n g u some broad hb in
    let ex = join-x a b p q in
    let ey = join-y a b p q in
    let fx = join-end_x a b p q in
    let fy = join-end_y a b p q in
    record {
      top = omega (arith, ints, clamps, ey, ha.top, hb.top);
      rows = omega (arith, ints, clamps, ey, fy, ha.top, hb.top, ha.rows, hb.rows);
      left = ex ∙ ap₂ (λ (i j : ℤ). int_min i j) ha.left hb.left;
      right = fx ∙ ap₂ (λ (i j : ℤ). int_max i j) ha.right hb.right;
    }

-- one below the other
lies-below : (a b : Rect) (y : ℤ) (n m : ℕ) (f t g u : ℤ) → 0 < n → 0 < m → f <ℤ t → g <ℤ u → Lies a y n f t → Lies b (y +ℤ pos n) m g u
    → Lies (join a b) y (n + m) (int_min f g) (int_max t u)
lies-below a b y n m f t g u some any wide broad ha hb =
    let p = lies-some a y n f t some wide ha in
    let q = lies-some b (y +ℤ pos n) m g u any broad hb in
    let ex = join-x a b p q in
    let ey = join-y a b p q in
    let fx = join-end_x a b p q in
    let fy = join-end_y a b p q in
    record {
      top = omega (arith, ints, clamps, ey, ha.top, hb.top);
      rows = omega (arith, ints, clamps, ey, fy, ha.top, hb.top, ha.rows, hb.rows);
      left = ex ∙ ap₂ (λ (i j : ℤ). int_min i j) ha.left hb.left;
      right = fx ∙ ap₂ (λ (i j : ℤ). int_max i j) ha.right hb.right;
    }

-- one within the columns of the other
lies-in : (a b : Rect) (y : ℤ) (n : ℕ) (f t g u : ℤ) → 0 < n → g <ℤ u → f ≤ℤ g → u ≤ℤ t → Lies a y n f t → Lies b y n g u → Lies (join a b) y n f t
lies-in a b y n f t g u some broad low high ha hb =
    lies-as (join a b) y n n (int_min f g) f (int_max t u) t refl (omega (arith, places, low)) (omega (arith, places, high))
    (lies-beside a b y n f t g u some (omega (arith, ints, broad, low, high)) broad ha hb)

lies-none : (a : Rect) (y : ℤ) (n : ℕ) (f t : ℤ) → Lies a y n f t → Lies (join a no_rect) y n f t
lies-none a y n f t h = rw (join_none a no_rect refl) h

pub lies-row : (x y : ℤ) (n : ℕ) → Lies (row_rect x y n) y 1 x (x +ℤ pos n)
lies-row x y n = record { top = refl; rows = refl; left = refl; right = refl }

-- ---- texts

-- with a text of n columns from column l + c on
lies-text : (a : Rect) (y f : ℤ) (l c k n : ℕ) → f <ℤ pos (l + k) → f ≤ℤ pos (l + c) → Lies a y 1 f (pos (l + k))
    → Lies (join a (join no_rect (row_rect (pos (l + c)) y n))) y 1 f (pos (l + max k (end_of_texts c n)))
lies-text a y f l c k zero wide low h =
    rw (join_none no_rect (row_rect (pos (l + c)) y 0) refl)
    (lies-as (join a no_rect) y 1 1 f f (pos (l + k)) (pos (l + max k 0)) refl refl (omega (arith, ints)) (lies-none a y 1 f (pos (l + k)) h))
lies-text a y f l c k (suc n) wide low h =
    let x = pos (l + c) in
    let some : (suc n == 0) ≡ false = grind arith in
    rw (not-empty x y (suc n) (omega arith), some)
    (lies-as _ y 1 1 (int_min f x) f (int_max (pos (l + k)) (x +ℤ pos (suc n))) (pos (l + max k (c + suc n))) refl (omega (arith, places, low)) (omega (arith, places))
    (lies-beside a (row_rect x y (suc n)) y 1 f (pos (l + k)) x (x +ℤ pos (suc n)) (omega arith) wide (omega (arith, ints)) h (lies-row x y (suc n))))

-- the box of a text, with an ellipsis if it passes the end of the mask
said-box : (s : Sight) (x y : ℤ) (ts : List (List ℕ))
    → box_rect (text_picture {K = ComponentId} s x y ts)
    ≡ join (join no_rect (row_rect x y (texts_width ts))) (if int_lt (end_x_of (reach s)) (x +ℤ pos (texts_width ts)) then row_rect (end_x_of (reach s) -ℤ pos 1) y 1 else no_rect)
unfolding text_picture
said-box s x y ts =
    box-followed (line_picture {K = ComponentId} s x y ts) _ ∙ ap₂ (λ (a b : Rect). join a b) (box-texts s x y ts) (go (int_lt (end_x_of (reach s)) (x +ℤ pos (texts_width ts))))
  where
    go : (b : Bool) → box_rect (if b then span_picture {K = ComponentId} s (end_x_of (reach s) -ℤ pos 1) y ellipsis else nothing)
        ≡ (if b then row_rect (end_x_of (reach s) -ℤ pos 1) y 1 else no_rect)
    go true =
        box-text s (end_x_of (reach s) -ℤ pos 1) y ellipsis ∙ ap (λ n. join no_rect (row_rect (end_x_of (reach s) -ℤ pos 1) y n)) width-ellipsis
        ∙ not-empty (end_x_of (reach s) -ℤ pos 1) y 1 (omega arith)
    go false = box-empty

lies-said : (a : Rect) (s : Sight) (x y f : ℤ) (l c k e : ℕ) (ts : List (List ℕ)) → f <ℤ pos (l + k) → f ≤ℤ pos (l + c) → x ≡ pos (l + c) → end_x_of (reach s) ≡ pos e → f <ℤ pos e → e ≤ l + k
    → Lies a y 1 f (pos (l + k)) → Lies (join a (box_rect (text_picture {K = ComponentId} s x y ts))) y 1 f (pos (l + max k (end_of_texts c (texts_width ts))))
lies-said a s x y f l c k e ts wide low here end first last h =
    let n = texts_width ts in
    let text = join no_rect (row_rect (pos (l + c)) y n) in
    rw (said-box s x y ts, here, end, sym (join-assoc a text (if int_lt (pos e) (pos (l + c) +ℤ pos n) then row_rect (pos e -ℤ pos 1) y 1 else no_rect)))
    (go (int_lt (pos e) (pos (l + c) +ℤ pos n)) (lies-text a y f l c k n wide low h))
  where
    go : (b : Bool) → Lies (join a (join no_rect (row_rect (pos (l + c)) y (texts_width ts)))) y 1 f (pos (l + max k (end_of_texts c (texts_width ts))))
        → Lies (join (join a (join no_rect (row_rect (pos (l + c)) y (texts_width ts)))) (if b then row_rect (pos e -ℤ pos 1) y 1 else no_rect)) y 1 f (pos (l + max k (end_of_texts c (texts_width ts))))
    go true t =
        lies-in _ (row_rect (pos e -ℤ pos 1) y 1) y 1 f (pos (l + max k (end_of_texts c (texts_width ts)))) (pos e -ℤ pos 1) ((pos e -ℤ pos 1) +ℤ pos 1) (omega arith) (omega (arith, ints))
        (omega (arith, ints, first)) (omega (arith, ints, last)) t (lies-row (pos e -ℤ pos 1) y 1)
    go false t = lies-none _ y 1 f (pos (l + max k (end_of_texts c (texts_width ts)))) t

pub one-width : (t : List ℕ) → texts_width (t ∷ []) ≡ text_width t
unfolding texts_width
one-width t = omega arith

-- ---- boxes and covers

lies-box : (b : IdBox) (s : Sight) (x y : ℤ) → Lies (box_rect (box_part b s x y)) y 1 x (x +ℤ pos 3)
lies-box b s x y = rw (box-of b s x y) (lies-row x y 3)

lies-blank : (s : Sight) (x y : ℤ) (n : ℕ) → 0 < n → Lies (box_rect (blank_picture {K = ComponentId} s (row_rect x y n))) y 1 x (x +ℤ pos n)
lies-blank s x y n some = rw (box-blank s (row_rect x y n), not-empty x y n some) (lies-row x y n)

box-cover : (r : Rect) → box_rect (covering {K = ComponentId} r) ≡ join no_rect r
unfolding box_rect covering
box-cover r = around-one no_rect r

lies-cover : (x y : ℤ) (n : ℕ) → 0 < n → Lies (box_rect (covering {K = ComponentId} (row_rect x y n))) y 1 x (x +ℤ pos n)
lies-cover x y n some = rw (box-cover (row_rect x y n), not-empty x y n some) (lies-row x y n)

-- the area's columns from column 2 on
lies-rest : (s : Sight) (w : ℕ) (a : Area) (y : ℤ) → 10 ≤ a.width → IsSeen s w a → Lies (box_rect (covering {K = ComponentId} (rest_of_row s (pos (a.left + 2)) y))) y 1 (pos (a.left + 2)) (pos (a.left + a.width))
lies-rest s w a y wide o =
    let x = pos (a.left + 2) in
    let n = end-of s w a 2 (omega (arith, wide)) o in
    rw n (lies-as _ y 1 1 x x (x +ℤ pos (a.width - 2)) (pos (a.left + a.width)) refl refl (omega (arith, ints, wide)) (lies-cover x y (a.width - 2) (omega (arith, wide))))

-- all columns of the area
lies-whole : (s : Sight) (w : ℕ) (a : Area) (y : ℤ) → 10 ≤ a.width → IsSeen s w a → Lies (box_rect (covering {K = ComponentId} (whole_row s y))) y 1 (pos (a.left + 0)) (pos (a.left + a.width))
lies-whole s w a y wide o =
    lies-as _ y 1 1 (reach s).x (pos (a.left + 0)) ((reach s).x +ℤ pos (reach s).width) (pos (a.left + a.width)) refl (omega (arith, ints, o.low)) (omega (arith, ints, o.low, o.columns))
    (lies-cover (reach s).x y (reach s).width (omega (arith, o.columns, wide)))

-- ---- rows

-- the columns of a row: from column 0 or 2 to the end of the area, or of its text if that is behind it
abbrev pub RowLies : Rect → Area → ℤ → Bool → ℕ → Type 0
RowLies r a y wide reach = Lies r y 1 (pos (a.left + left_of wide)) (pos (a.left + max a.width reach))

pub heading-lies : (h : Heading) (s : Sight) (w : ℕ) (a : Area) (c : ℕ) (y : ℤ) → c + 8 ≤ a.width → IsSeen s w a
    → Lies (box_rect (heading_picture h s (pos (a.left + c)) y)) y 1 (pos (a.left + c)) (pos (a.left + max a.width (end_of_texts (c + 4) (text_width h.title))))
unfolding heading_picture title_picture
heading-lies h s w a c y fits o =
    let l = a.left in
    let v = a.width in
    let x = pos (l + c) in
    let t = beside_fold s (l + c) y in
    let n = heading-columns s w a c fits o in
    let between = heading-between s w a c y fits o in
    let fold = fold-at s w a (omega (arith, fits)) o in
    let e = end_of_texts (c + 4) (text_width h.title) in
    let blank : Lies (box_rect (blank_picture {K = ComponentId} t (row_rect x y (heading_width s x)))) y 1 x (pos (l + (v - 3))) =
    lies-as _ y 1 1 x x (x +ℤ pos (heading_width s x)) (pos (l + (v - 3))) refl refl (omega (arith, ints, n, fits)) (lies-blank t x y (heading_width s x) (omega (arith, n, fits))) in
    let toggle = lies-box h.toggle t x y in
    let both = lies-in _ _ y 1 x (pos (l + (v - 3))) x (x +ℤ pos 3) (omega arith) (omega (arith, ints)) (omega (arith, ints)) (omega (arith, ints, fits)) blank toggle in
    let said = lies-said _ t (x +ℤ pos 4) y x l (c + 4) (v - 3) (title_column a) (h.title ∷ []) (omega (arith, ints, fits)) (omega (arith, ints)) (omega (arith, ints)) between.high
    (omega (arith, ints, fits)) (omega arith) both in
    let title = rw (one-width h.title) at said in
    let box = lies-box h.fold s (fold_column s) y in
    let all = lies-beside _ _ y 1 (fold_column s) (fold_column s +ℤ pos 3) x (pos (l + max (v - 3) e)) (omega arith) (omega (arith, ints)) (omega (arith, ints, fits)) box title in
    rw (
      box-followed (box_part h.fold s (fold_column s) y) (followed_by (blank_picture t (row_rect x y (heading_width s x))) (followed_by (box_part h.toggle t x y) (text_picture t (x +ℤ pos 4) y (h.title ∷ [])))),
      box-followed (blank_picture t (row_rect x y (heading_width s x))) (followed_by (box_part h.toggle t x y) (text_picture t (x +ℤ pos 4) y (h.title ∷ []))),
      box-followed (box_part h.toggle t x y) (text_picture t (x +ℤ pos 4) y (h.title ∷ [])),
      sym (join-assoc (box_rect (blank_picture {K = ComponentId} t (row_rect x y (heading_width s x)))) (box_rect (box_part h.toggle t x y)) (box_rect (text_picture {K = ComponentId} t (x +ℤ pos 4) y (h.title ∷ [])))),
    )
    (lies-as _ y 1 1 _ x _ (pos (l + max v e)) refl (omega (arith, places, fold, fits)) (omega (arith, places, fold, fits)) all)

-- with the columns of a selected section's first row
lit-lies : (b : Bool) (r : Rect) (s : Sight) (w : ℕ) (a : Area) (y : ℤ) (e : ℕ) → 10 ≤ a.width → IsSeen s w a → Lies r y 1 (pos (a.left + 2)) (pos (a.left + max a.width e))
    → RowLies (join r (box_rect (highlight b s y))) a y b e
lit-lies true r s w a y e wide o h =
    let f = pos (a.left + 2) in
    let t = pos (a.left + max a.width e) in
    let g = pos (a.left + 0) in
    let u = pos (a.left + a.width) in
    lies-as _ y 1 1 (int_min f g) g (int_max t u) t refl (omega (arith, places)) (omega (arith, places))
    (lies-beside r _ y 1 f t g u (omega arith) (omega (arith, ints, wide)) (omega (arith, ints, wide)) h (lies-whole s w a y wide o))
lit-lies false r s w a y e wide o h = rw box-empty (lies-none r y 1 (pos (a.left + 2)) (pos (a.left + max a.width e)) h)

mark-lies : (selected : Bool) (b : IdBox) (t : List ℕ) (s : Sight) (w : ℕ) (a : Area) (y : ℤ) → 10 ≤ a.width → IsSeen s w a
    → RowLies (box_rect (row_picture (MarkRow selected b t) s (pos (a.left + 2)) y)) a y selected (end_of_texts 6 (text_width t))
unfolding row_picture
mark-lies selected b t s w a y wide o =
    let l = a.left in
    let v = a.width in
    let x = pos (l + 2) in
    let cover = covering {K = ComponentId} (rest_of_row s x y) in
    let box = box_part b s x y in
    let text = text_picture {K = ComponentId} s (x +ℤ pos 4) y (t ∷ []) in
    let lit = highlight selected s y in
    let both = lies-in (box_rect cover) (box_rect box) y 1 x (pos (l + v)) x (x +ℤ pos 3) (omega arith) (omega (arith, ints)) (omega (arith, ints)) (omega (arith, ints, wide)) (lies-rest s w a y wide o) (lies-box b s x y) in
    let said = lies-said _ s (x +ℤ pos 4) y x l 6 v (end_column a) (t ∷ []) (omega (arith, ints, wide)) (omega (arith, ints)) (omega (arith, ints)) (omega (arith, ints, o.low, o.columns)) (omega (arith, ints, wide)) (omega arith) both in
    let inner = rw (one-width t) at said in
    rw (
      box-followed cover (followed_by box (followed_by text lit)),
      box-followed box (followed_by text lit),
      box-followed text lit,
      sym (join-assoc (box_rect cover) (box_rect box) (join (box_rect text) (box_rect lit))),
      sym (join-assoc (join (box_rect cover) (box_rect box)) (box_rect text) (box_rect lit)),
    )
    (lit-lies selected _ s w a y (end_of_texts 6 (text_width t)) wide o inner)

-- a line takes all columns of the area
pub changed-lies : (b : IdBox) (ts : List (List ℕ)) (s : Sight) (w : ℕ) (a : Area) (x y : ℤ) → x ≡ pos (a.left + 4) → 10 ≤ a.width → IsSeen s w a
    → RowLies (box_rect (changed_picture b ts s x y)) a y true (end_of_texts 8 (texts_width ts))
unfolding changed_picture
changed-lies b ts s w a x y here wide o =
    let l = a.left in
    let v = a.width in
    let g = pos (l + 0) in
    let cover = covering {K = ComponentId} (whole_row s y) in
    let box = box_part b s x y in
    let text = text_picture {K = ComponentId} s (x +ℤ pos 4) y ts in
    let both = lies-in (box_rect cover) (box_rect box) y 1 g (pos (l + v)) x (x +ℤ pos 3) (omega arith) (omega (arith, ints)) (omega (arith, ints, here)) (omega (arith, ints, here, wide)) (lies-whole s w a y wide o) (lies-box b s x y) in
    let said = lies-said _ s (x +ℤ pos 4) y g l 8 v (end_column a) ts (omega (arith, ints, wide)) (omega (arith, ints)) (omega (arith, ints, here)) (omega (arith, ints, o.low, o.columns)) (omega (arith, ints, wide)) (omega arith) both in
    rw (
      box-followed cover (followed_by box text),
      box-followed box text,
      sym (join-assoc (box_rect cover) (box_rect box) (box_rect text)),
    )
    said

pub context-lies : (ts : List (List ℕ)) (s : Sight) (w : ℕ) (a : Area) (x y : ℤ) → x ≡ pos (a.left + 4) → 10 ≤ a.width → IsSeen s w a
    → RowLies (box_rect (context_picture ts s x y)) a y true (end_of_texts 4 (texts_width ts))
unfolding context_picture
context-lies ts s w a x y here wide o =
    let l = a.left in
    let v = a.width in
    let g = pos (l + 0) in
    let cover = covering {K = ComponentId} (whole_row s y) in
    let text = text_picture {K = ComponentId} s x y ts in
    rw (box-followed cover text)
    (lies-said _ s x y g l 4 v (end_column a) ts (omega (arith, ints, wide)) (omega (arith, ints)) here (omega (arith, ints, o.low, o.columns)) (omega (arith, ints, wide)) (omega arith) (lies-whole s w a y wide o))

-- a line, over the columns of its section
line-lies : (i : ComponentId) (m : IdPicture) (s : Sight) (w : ℕ) (a : Area) (y : ℤ) (e : ℕ) → 10 ≤ a.width → IsSeen s w a → RowLies (box_rect m) a y true e
    → RowLies (box_rect (followed_by (covering (rest_of_row s (pos (a.left + 2)) y)) (part i m))) a y true e
line-lies i m s w a y e wide o h =
    let f = pos (a.left + 2) in
    let t = pos (a.left + a.width) in
    let g = pos (a.left + 0) in
    let u = pos (a.left + max a.width e) in
    rw (box-followed (covering {K = ComponentId} (rest_of_row s f y)) (part i m), box-part i m)
    (lies-as _ y 1 1 (int_min f g) g (int_max t u) u refl (omega (arith, places)) (omega (arith, places))
    (lies-beside _ _ y 1 f t g u (omega arith) (omega (arith, ints, wide)) (omega (arith, ints, wide)) (lies-rest s w a y wide o) h))

pub row-lies : (d : DocRow) (s : Sight) (w : ℕ) (a : Area) (y : ℤ) → 10 ≤ a.width → IsSeen s w a → RowLies (box_rect (row_picture d s (pos (a.left + column_of d)) y)) a y (is_whole d) (row_reach d)
unfolding row_picture
row-lies (HeaderRow key h) s w a y wide o = rw (box-part (ids.FileViewHeader key) (heading_picture h s (pos (a.left + 0)) y)) (heading-lies h s w a 0 y (omega (arith, wide)) o)
row-lies (SectionRow selected h) s w a y wide o =
    rw (box-followed (heading_picture h s (pos (a.left + 2)) y) (highlight selected s y)) (lit-lies selected _ s w a y (end_of_texts 6 (text_width h.title)) wide o (heading-lies h s w a 2 y (omega (arith, wide)) o))
row-lies (LineRow key b ts) s w a y wide o =
    let x = pos (a.left + 2) +ℤ pos 2 in
    line-lies (line_id key) (changed_picture b ts s x y) s w a y (end_of_texts 8 (texts_width ts)) wide o (changed-lies b ts s w a x y (omega (arith, ints)) wide o)
row-lies (MarkRow selected b t) s w a y wide o = mark-lies selected b t s w a y wide o
row-lies (ContextRow key ts) s w a y wide o =
    let x = pos (a.left + 2) +ℤ pos 2 in
    line-lies (line_id key) (context_picture ts s x y) s w a y (end_of_texts 4 (texts_width ts)) wide o (context-lies ts s w a x y (omega (arith, ints)) wide o)
row-lies (DotsRow t) s w a y wide o =
    let x = pos (a.left + 2) in
    let here : x +ℤ pos 6 ≡ pos (a.left + 8) = omega (arith, ints) in
    rw (box-followed (covering {K = ComponentId} (rest_of_row s x y)) (span_picture s (x +ℤ pos 6) y t), box-text s (x +ℤ pos 6) y t, here)
    (lies-text _ y x a.left 8 a.width (text_width t) (omega (arith, ints, wide)) (omega (arith, ints)) (lies-rest s w a y wide o))
row-lies BlankRow s w a y wide o =
    let x = pos (a.left + 2) in
    let n = end-of s w a 2 (omega (arith, wide)) o in
    rw n (lies-as _ y 1 1 x x (x +ℤ pos (a.width - 2)) (pos (a.left + max a.width 0)) refl refl (omega (arith, ints, wide)) (lies-blank s x y (a.width - 2) (omega (arith, wide))))

-- ---- rows one below another

-- the farthest end of rows and of column v
abbrev pub farthest : ℕ → List DocRow → ℕ
farthest v ds = fold max v (map row_reach ds)

max-out : (a b : ℕ) (ns : List ℕ) → fold max (max a b) ns ≡ max b (fold max a ns)
max-out a b [] = omega arith
max-out a b (n ∷ ns) =
    let swapped : max (max a b) n ≡ max (max a n) b = omega arith in
    ap (λ k. fold max k ns) swapped ∙ max-out (max a n) b ns

pub max-least : (a : ℕ) (ns : List ℕ) → a ≤ fold max a ns
max-least a [] = omega arith
max-least a (n ∷ ns) = let more = max-least (max a n) ns in omega (arith, more)

-- of rows one below the other
two-farthest : (v : ℕ) (ds es : List DocRow) → farthest v (ds ++ es) ≡ max (farthest v ds) (farthest v es)
two-farthest v ds es =
    ap (fold max v) (map-append row_reach ds es) ∙ fold-append max v (map row_reach ds) (map row_reach es)
    ∙ (let least = max-least v (map row_reach ds) in
    let start : farthest v ds ≡ max v (farthest v ds) = omega (arith, least) in
    ap (λ k. fold max k (map row_reach es)) start ∙ max-out v (farthest v ds) (map row_reach es))

one-farthest : (v : ℕ) (d : DocRow) → farthest v (d ∷ []) ≡ max v (row_reach d)
one-farthest v d = refl

-- rows from row y on, with columns 0 and 1 or without
abbrev pub RowsLie : Rect → Area → ℤ → Bool → List DocRow → Type 0
RowsLie r a y wide ds = Lies r y (length ds) (pos (a.left + left_of wide)) (pos (a.left + farthest a.width ds))

left-most : (b : Bool) → left_of b ≤ 2
left-most true = omega arith
left-most false = omega arith

both-lefts : (l : ℕ) (a b : Bool) → int_min (pos (l + left_of a)) (pos (l + left_of b)) ≡ pos (l + left_of (a || b))
both-lefts l true true = omega (arith, places)
both-lefts l true false = omega (arith, places)
both-lefts l false true = omega (arith, places)
both-lefts l false false = omega (arith, places)

-- rows, and other rows below them
below-lies : (r q : Rect) (a : Area) (y : ℤ) (b c : Bool) (ds es : List DocRow) → 10 ≤ a.width → 0 < length ds → 0 < length es → RowsLie r a y b ds → RowsLie q a (y +ℤ pos (length ds)) c es
    → RowsLie (join r q) a y (b || c) (ds ++ es)
below-lies r q a y b c ds es wide some any p o =
    let l = a.left in
    let f = pos (l + left_of b) in
    let g = pos (l + left_of c) in
    let t = pos (l + farthest a.width ds) in
    let u = pos (l + farthest a.width es) in
    let pt = max-least a.width (map row_reach ds) in
    let pu = max-least a.width (map row_reach es) in
    let lb = left-most b in
    let lc = left-most c in
    let far = two-farthest a.width ds es in
    lies-as (join r q) y (length ds + length es) (length (ds ++ es)) (int_min f g) (pos (l + left_of (b || c))) (int_max t u) (pos (l + farthest a.width (ds ++ es)))
    (sym (length-append ds es)) (both-lefts l b c) (omega (arith, places, far))
    (lies-below r q y (length ds) (length es) f t g u some any (omega (arith, ints, pt, lb, wide)) (omega (arith, ints, pu, lc, wide)) p o)

one-lies : (d : DocRow) (s : Sight) (w : ℕ) (a : Area) (y : ℤ) → 10 ≤ a.width → IsSeen s w a → column_of d ≡ 2 → RowsLie (box_rect (row_picture d s (pos (a.left + 2)) y)) a y (is_whole d) (d ∷ [])
one-lies d s w a y wide o inner = subst (λ c. RowsLie (box_rect (row_picture d s (pos (a.left + c)) y)) a y (is_whole d) (d ∷ [])) inner (row-lies d s w a y wide o)

or-none : (b : Bool) → (b || false) ≡ b
or-none true = refl
or-none false = refl

pub rows-lie : (d : DocRow) (ds : List DocRow) (s : Sight) (w : ℕ) (a : Area) (y : ℤ) → 10 ≤ a.width → IsSeen s w a → AreInner (d ∷ ds)
    → RowsLie (box_rect (rows_picture (d ∷ ds) s (pos (a.left + 2)) y)) a y (is_wide (d ∷ ds)) (d ∷ ds)
unfolding rows_picture
rows-lie d [] s w a y wide o inner =
    let x = pos (a.left + 2) in
    let first = one-lies d s w a y wide o inner.0 in
    rw (box-followed (row_picture d s x y) nothing, box-empty, or-none (is_whole d))
    (lies-none _ y 1 (pos (a.left + left_of (is_whole d))) (pos (a.left + farthest a.width (d ∷ []))) first)
rows-lie d (e ∷ ds) s w a y wide o inner =
    let x = pos (a.left + 2) in
    rw (box-followed (row_picture d s x y) (rows_picture (e ∷ ds) s x (y +ℤ pos 1)))
    (below-lies _ _ a y (is_whole d) (is_wide (e ∷ ds)) (d ∷ []) (e ∷ ds) wide (omega arith) (omega arith) (one-lies d s w a y wide o inner.0) (rows-lie e ds s w a (y +ℤ pos 1) wide o inner.1))

-- ---- sections and files

-- whether a section takes columns 0 and 1
abbrev any_wide : List ShownSection → Bool
any_wide [] = false
any_wide (p ∷ ps) = is_wide p.rows || any_wide ps

pub section-lies : (i : ComponentId) (ds : List DocRow) (s : Sight) (w : ℕ) (a : Area) (y : ℤ) → 10 ≤ a.width → IsSeen s w a → 0 < length ds → AreInner ds
    → RowsLie (box_rect (part i (rows_picture ds s (pos (a.left + 2)) y))) a y (is_wide ds) ds
section-lies i [] s w a y wide o some inner = absurd (omega (arith, some))
section-lies i (d ∷ ds) s w a y wide o some inner = rw (box-part i (rows_picture (d ∷ ds) s (pos (a.left + 2)) y)) (rows-lie d ds s w a y wide o inner)

some-rows : (p : ShownSection) (ps : List ShownSection) → 0 < length p.rows → 0 < length (sections_rows (p ∷ ps))
unfolding sections_rows
some-rows p ps some = let n = length-append p.rows (sections_rows ps) in omega (arith, some, n)

sections-lie : (p : ShownSection) (ps : List ShownSection) (s : Sight) (w : ℕ) (a : Area) (y : ℤ) → 10 ≤ a.width → IsSeen s w a → AreInnerSections (p ∷ ps) → HaveRows (p ∷ ps)
    → RowsLie (box_rect (sections_picture (p ∷ ps) s (pos (a.left + 2)) y)) a y (any_wide (p ∷ ps)) (sections_rows (p ∷ ps))
unfolding sections_picture sections_rows
sections-lie p [] s w a y wide o inner some =
    let m = part (section_id p.key) (rows_picture p.rows s (pos (a.left + 2)) y) in
    let first = section-lies (section_id p.key) p.rows s w a y wide o some.0 inner.0 in
    rw (box-followed m nothing, box-empty, or-none (is_wide p.rows), append-nil p.rows)
    (lies-none (box_rect m) y (length p.rows) (pos (a.left + left_of (is_wide p.rows))) (pos (a.left + farthest a.width p.rows)) first)
sections-lie p (q ∷ ps) s w a y wide o inner some =
    let x = pos (a.left + 2) in
    let next = y +ℤ pos (length p.rows) in
    rw (box-followed (part (section_id p.key) (rows_picture p.rows s x y)) (sections_picture (q ∷ ps) s x next))
    (below-lies _ _ a y (is_wide p.rows) (any_wide (q ∷ ps)) p.rows (sections_rows (q ∷ ps)) wide some.0 (some-rows q ps some.1.0)
    (section-lies (section_id p.key) p.rows s w a y wide o some.0 inner.0) (sections-lie q ps s w a next wide o inner.1 some.1))

-- a file's header, from the area's first column on
pub header-lies : (f : ShownFile) (s : Sight) (w : ℕ) (a : Area) (y : ℤ) → 10 ≤ a.width → IsSeen s w a
    → RowsLie (box_rect (row_picture (HeaderRow f.key f.heading) s (pos a.left) y)) a y true (HeaderRow f.key f.heading ∷ [])
header-lies f s w a y wide o =
    let here : a.left + 0 ≡ a.left = omega arith in
    subst (λ c. RowsLie (box_rect (row_picture (HeaderRow f.key f.heading) s (pos c) y)) a y true (HeaderRow f.key f.heading ∷ [])) here (row-lies (HeaderRow f.key f.heading) s w a y wide o)

by-sections : (f : ShownFile) (ps : List ShownSection) (s : Sight) (w : ℕ) (a : Area) (y : ℤ) → 10 ≤ a.width → IsSeen s w a → AreInnerSections ps → HaveRows ps
    → RowsLie (box_rect (followed_by (row_picture (HeaderRow f.key f.heading) s (pos a.left) y) (sections_picture ps s (pos (a.left + 2)) (y +ℤ pos 1)))) a y true (HeaderRow f.key f.heading ∷ sections_rows ps)
unfolding sections_picture sections_rows
by-sections f [] s w a y wide o inner some =
    let m = row_picture (HeaderRow f.key f.heading) s (pos a.left) y in
    rw (box-followed m nothing, box-empty)
    (lies-none (box_rect m) y 1 (pos (a.left + 0)) (pos (a.left + farthest a.width (HeaderRow f.key f.heading ∷ []))) (header-lies f s w a y wide o))
by-sections f (p ∷ ps) s w a y wide o inner some =
    let m = row_picture (HeaderRow f.key f.heading) s (pos a.left) y in
    rw (box-followed m (sections_picture (p ∷ ps) s (pos (a.left + 2)) (y +ℤ pos 1)))
    (below-lies _ _ a y true (any_wide (p ∷ ps)) (HeaderRow f.key f.heading ∷ []) (sections_rows (p ∷ ps)) wide (omega arith) (some-rows p ps some.0)
    (header-lies f s w a y wide o) (sections-lie p ps s w a (y +ℤ pos 1) wide o inner some))

-- a file's box lies on its rows, and has all columns of the area
pub file-lies : (f : ShownFile) (s : Sight) (w : ℕ) (a : Area) (y : ℤ) → 10 ≤ a.width → IsSeen s w a → AreInnerSections f.sections → HaveRows f.sections
    → RowsLie (box_rect (shown_file_picture f s (pos a.left) y)) a y true (file_rows f)
unfolding shown_file_picture file_rows
file-lies f s w a y wide o inner some = by-sections f f.sections s w a y wide o inner some
