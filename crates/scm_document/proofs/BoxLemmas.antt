-- On which rows and columns the boxes of rows lie, one below another.
use mathlib.Core.Bool.{or-false}
use Rattle.std.proofs.Common.{◌≡◌, ℕ, suc, ◌+◌, ◌-◌, ◌<◌, ◌≤◌, Bool, true, false, List, [], ◌∷◌, length, refl, sym, ap, ◌∙◌, arith}
use Rattle.std.specs.Prelude.{ℤ, pos, ◌+ℤ◌, ◌-ℤ◌, ◌≤ℤ◌, int_le, int_lt, ◌&&◌, ◌||◌, nat_le, if◌then◌else◌}
use Rattle.std.specs.Int.{int_min}
use Rattle.std.proofs.lemmas.Int.{ints}
use Rattle.scm_cells.specs.Clusters.{text_width}
use Rattle.scm_cells.specs.Rect.{end_x_of}
use Rattle.scm_cells.specs.declared.rect.Rect.{Rect}
use Rattle.scm_cells.proofs.RectLemmas.{places}
use Rattle.scm_render.specs.Picture.{Picture, nothing, followed_by, covering, box_rect, part}
use Rattle.scm_render.specs.Around.{join, around, no_rect}
use Rattle.scm_render.specs.Canvas.{Sight}
use Rattle.scm_render.specs.Drawing.{reach, row_rect, span_picture, line_picture, text_picture, blank_picture, texts_width}
use Rattle.scm_render.proofs.AroundLemmas.{around-one, join-assoc}
use Rattle.scm_render.proofs.SpanLemmas.{Spans, IsIn, in_more, spans_in, spans_row, spans_more, spans_beside}
use Rattle.scm_widgets.specs.declared.ids.ComponentId.{ComponentId}
use Rattle.scm_document.specs.OpenSights.{IsOpen}
use Rattle.scm_widgets.specs.Texts.{box_text}
use Rattle.scm_widgets.specs.Boxes.{IdBox}
use Rattle.scm_document.specs.Rows.{Heading, DocRow, HeaderRow, SectionRow, LineRow, MarkRow, ContextRow, DotsRow, BlankRow, line_id}
use Rattle.scm_widgets.specs.Pictures.{IdPicture, to_end, box_picture, box_part, rest_of_row, whole_row, fold_column, highlight, blank_rest}
use Rattle.scm_document.specs.Pictures.{heading_width, title_picture, heading_picture, changed_picture, context_picture, row_picture, rows_picture}
use Rattle.scm_document.specs.Strips.{is_whole, is_wide}
use Rattle.scm_widgets.proofs.DrawsStrips.{HasBox, box-followed, box-part}
use Rattle.scm_widgets.proofs.MenuLemmas.{not-empty, in-nothing, in-row}
use Rattle.scm_document.proofs.StripLemmas.{open-between, fold-place, heading-columns, heading-between, beside_fold, column_of, AreInner}
use Rattle.scm_widgets.proofs.BoxLemmas.{box-width}

-- ---- the boxes of the parts of a row

pub box-span : (s : Sight) (x y : ℤ) (t : List ℕ) → box_rect (span_picture {K = ComponentId} s x y t) ≡ join no_rect (row_rect x y (text_width t))
unfolding box_rect span_picture
box-span s x y t = around-one no_rect _

pub box-line : (s : Sight) (x y : ℤ) (ts : List (List ℕ)) → box_rect (line_picture {K = ComponentId} s x y ts) ≡ join no_rect (row_rect x y (texts_width ts))
unfolding box_rect line_picture
box-line s x y ts = around-one no_rect _

pub box-cover : (r : Rect) → box_rect (covering {K = ComponentId} r) ≡ join no_rect r
unfolding box_rect covering
box-cover r = around-one no_rect r

box-blank : (s : Sight) (r : Rect) → box_rect (blank_picture {K = ComponentId} s r) ≡ join no_rect r
unfolding box_rect blank_picture
box-blank s r = around-one no_rect r

pub box-none : box_rect (nothing {K = ComponentId}) ≡ no_rect
unfolding box_rect nothing around
box-none = refl

pub box-rect : (b : IdBox) (s : Sight) (x y : ℤ) → box_rect (box_part b s x y) ≡ row_rect x y 3
unfolding box_picture
box-rect b s x y = box-part b.id (box_picture b s x y) ∙ box-span s x y (box_text b) ∙ ap (λ n. join no_rect (row_rect x y n)) (box-width b) ∙ not-empty x y 3 (omega arith)

pub span-in : (s : Sight) (x y l : ℤ) (t : List ℕ) → l ≤ℤ x → IsIn (box_rect (span_picture {K = ComponentId} s x y t)) y 1 l
span-in s x y l t h = rw (box-span s x y t) (in-row x y l (text_width t) h)

pub line-in : (s : Sight) (x y l : ℤ) (ts : List (List ℕ)) → l ≤ℤ x → IsIn (box_rect (line_picture {K = ComponentId} s x y ts)) y 1 l
line-in s x y l ts h = rw (box-line s x y ts) (in-row x y l (texts_width ts) h)

some-in : (b : Bool) (m : Picture ComponentId) (y l : ℤ) → IsIn (box_rect m) y 1 l → IsIn (box_rect (if b then m else nothing)) y 1 l
some-in true m y l h = h
some-in false m y l h = rw box-none (in-nothing y 1 l)

-- a text that does not begin left of a column, nor does the last column that drawing reaches
pub text-in : (s : Sight) (x y l : ℤ) (ts : List (List ℕ)) → l ≤ℤ x → l ≤ℤ (end_x_of (reach s) -ℤ pos 1) → IsIn (box_rect (text_picture {K = ComponentId} s x y ts)) y 1 l
unfolding text_picture
text-in s x y l ts h k =
    rw (box-followed (line_picture {K = ComponentId} s x y ts) _)
    (in_more _ _ y 1 l (line-in s x y l ts h) (some-in _ _ y l (span-in s (end_x_of (reach s) -ℤ pos 1) y l _ k)))

box-in : (b : IdBox) (s : Sight) (x y l : ℤ) → l ≤ℤ x → IsIn (box_rect (box_part b s x y)) y 1 l
unfolding box_picture
box-in b s x y l h = rw (box-part b.id (box_picture b s x y)) (span-in s x y l (box_text b) h)

-- ---- rows

whole-spans : (s : Sight) (w : ℕ) (y : ℤ) → 10 ≤ w → IsOpen s w → Spans (box_rect (covering {K = ComponentId} (whole_row s y))) y 1 (pos 0) w
whole-spans s w y fits o =
    rw (box-cover (whole_row s y), o.low, o.columns, not-empty (pos 0) y w (omega (arith, fits)))
    (spans_row (pos 0) y w w (omega (arith, ints)))

rest-spans : (s : Sight) (w : ℕ) (y : ℤ) → 10 ≤ w → IsOpen s w → Spans (box_rect (covering {K = ComponentId} (rest_of_row s (pos 2) y))) y 1 (pos 2) w
rest-spans s w y fits o =
    let n : to_end s (pos 2) ≡ w - 2 = omega (arith, places, o.low, o.columns) in
    rw (box-cover (rest_of_row s (pos 2) y), n, not-empty (pos 2) y (w - 2) (omega (arith, fits)))
    (spans_row (pos 2) y (w - 2) w (omega (arith, ints, fits)))

pub blank-spans : (s : Sight) (w c : ℕ) (y : ℤ) → c < w → IsOpen s w → Spans (box_rect (blank_rest s (pos c) y)) y 1 (pos c) w
blank-spans s w c y fits o =
    let n : to_end s (pos c) ≡ w - c = omega (arith, places, o.low, o.columns) in
    rw (box-blank s (rest_of_row s (pos c) y), n, not-empty (pos c) y (w - c) (omega (arith, fits)))
    (spans_row (pos c) y (w - c) w (omega (arith, ints, fits)))

title-spans : (h : Heading) (m : Sight) (n w c : ℕ) (y : ℤ) → c + 8 ≤ w → n ≡ w - 3 - c → end_x_of (reach m) ≡ pos (w - 3)
    → Spans (box_rect (title_picture h.toggle h.title n m (pos c) y)) y 1 (pos c) (w - 3)
unfolding title_picture
title-spans h m n w c y fits e high =
    rw (
      box-followed (blank_picture {K = ComponentId} m (row_rect (pos c) y n)) (followed_by (box_part h.toggle m (pos c) y) (text_picture m (pos c +ℤ pos 4) y (h.title ∷ []))),
      box-followed (box_part h.toggle m (pos c) y) (text_picture m (pos c +ℤ pos 4) y (h.title ∷ [])),
      box-blank m (row_rect (pos c) y n),
      not-empty (pos c) y n (omega (arith, fits, e)),
    )
    (spans_in _ _ y 1 (pos c) (w - 3) (omega arith) (omega (arith, ints, fits)) (spans_row (pos c) y n (w - 3) (omega (arith, ints, fits, e)))
    (in_more _ _ y 1 (pos c) (box-in h.toggle m (pos c) y (pos c) (omega (arith, ints)))
    (text-in m (pos c +ℤ pos 4) y (pos c) (h.title ∷ []) (omega (arith, ints)) (omega (arith, ints, high, fits)))))

heading-spans : (h : Heading) (s : Sight) (w c : ℕ) (y : ℤ) → c + 8 ≤ w → IsOpen s w → Spans (box_rect (heading_picture h s (pos c) y)) y 1 (pos c) w
unfolding heading_picture
heading-spans h s w c y fits o =
    let fold = fold-place s w (omega (arith, fits)) o in
    let m = beside_fold s c y in
    let rect : box_rect (box_part h.fold s (fold_column s) y) ≡ row_rect (pos (w - 3)) y 3 = box-rect h.fold s (fold_column s) y ∙ ap (λ x. row_rect x y 3) fold in
    let left : int_min (pos (w - 3)) (pos c) ≡ pos c = omega (arith, places, fits) in
    rw (box-followed (box_part h.fold s (fold_column s) y) (title_picture h.toggle h.title (heading_width s (pos c)) m (pos c) y), rect)
    (rw left at (spans_beside (row_rect (pos (w - 3)) y 3) _ y 1 (pos (w - 3)) (pos c) w (w - 3) (omega arith) (omega (arith, ints, fits)) (omega (arith, ints, fits)) (omega arith)
    (spans_row (pos (w - 3)) y 3 w (omega (arith, ints, fits))) (title-spans h m (heading_width s (pos c)) w c y fits (heading-columns s w c fits o) (heading-between s w c y fits o).high)))

-- the first column of a row's box
abbrev pub left_of : Bool → ℕ
left_of wide = if wide then 0 else 2

lit-spans : (b : Bool) (r : Rect) (s : Sight) (w : ℕ) (y : ℤ) → 10 ≤ w → IsOpen s w → Spans r y 1 (pos 2) w → Spans (join r (box_rect (highlight b s y))) y 1 (pos (left_of b)) w
lit-spans true r s w y fits o h =
    spans_beside r _ y 1 (pos 2) (pos 0) w w (omega arith) (omega (arith, ints, fits)) (omega (arith, ints, fits)) (omega arith) h (whole-spans s w y fits o)
lit-spans false r s w y fits o h = rw box-none (spans_in r no_rect y 1 (pos 2) w (omega arith) (omega (arith, ints, fits)) h (in-nothing y 1 (pos 2)))

mark-spans : (b : Bool) (k : IdBox) (t : List ℕ) (s : Sight) (w : ℕ) (y : ℤ) → 10 ≤ w → IsOpen s w
    → Spans (box_rect (row_picture (MarkRow b k t) s (pos 2) y)) y 1 (pos (left_of b)) w
unfolding row_picture
mark-spans b k t s w y fits o =
    let cover = covering {K = ComponentId} (rest_of_row s (pos 2) y) in
    let box = box_part k s (pos 2) y in
    let text = text_picture {K = ComponentId} s (pos 2 +ℤ pos 4) y (t ∷ []) in
    let i = open-between s w o in
    let inner : Spans (join (join (box_rect cover) (box_rect box)) (box_rect text)) y 1 (pos 2) w =
    spans_in _ _ y 1 (pos 2) w (omega arith) (omega (arith, ints, fits))
    (spans_in _ _ y 1 (pos 2) w (omega arith) (omega (arith, ints, fits)) (rest-spans s w y fits o) (box-in k s (pos 2) y (pos 2) (omega (arith, ints))))
    (text-in s (pos 2 +ℤ pos 4) y (pos 2) (t ∷ []) (omega (arith, ints)) (omega (arith, ints, i.high, fits))) in
    rw (
      box-followed cover (followed_by box (followed_by text (highlight b s y))),
      box-followed box (followed_by text (highlight b s y)),
      box-followed text (highlight b s y),
      sym (join-assoc (box_rect cover) (box_rect box) (join (box_rect text) (box_rect (highlight b s y)))),
      sym (join-assoc (join (box_rect cover) (box_rect box)) (box_rect text) (box_rect (highlight b s y))),
    )
    (lit-spans b _ s w y fits o inner)

-- a line takes all columns
pub changed-spans : (b : IdBox) (ts : List (List ℕ)) (s : Sight) (w : ℕ) (y : ℤ) → 10 ≤ w → IsOpen s w → Spans (box_rect (changed_picture b ts s (pos 4) y)) y 1 (pos 0) w
unfolding changed_picture
changed-spans b ts s w y fits o =
    let i = open-between s w o in
    rw (
      box-followed (covering {K = ComponentId} (whole_row s y)) (followed_by (box_part b s (pos 4) y) (text_picture s (pos 8) y ts)),
      box-followed (box_part b s (pos 4) y) (text_picture s (pos 8) y ts),
    )
    (spans_in _ _ y 1 (pos 0) w (omega arith) (omega (arith, ints, fits)) (whole-spans s w y fits o)
    (in_more _ _ y 1 (pos 0) (box-in b s (pos 4) y (pos 0) (omega (arith, ints))) (text-in s (pos 8) y (pos 0) ts (omega (arith, ints)) (omega (arith, ints, i.high, fits)))))

pub context-spans : (ts : List (List ℕ)) (s : Sight) (w : ℕ) (y : ℤ) → 10 ≤ w → IsOpen s w → Spans (box_rect (context_picture ts s (pos 4) y)) y 1 (pos 0) w
unfolding context_picture
context-spans ts s w y fits o =
    let i = open-between s w o in
    rw (box-followed (covering {K = ComponentId} (whole_row s y)) (text_picture s (pos 4) y ts))
    (spans_in _ _ y 1 (pos 0) w (omega arith) (omega (arith, ints, fits)) (whole-spans s w y fits o) (text-in s (pos 4) y (pos 0) ts (omega (arith, ints)) (omega (arith, ints, i.high, fits))))

-- a line over its section's columns
line-spans : (i : ComponentId) (m : IdPicture) (s : Sight) (w : ℕ) (y : ℤ) → 10 ≤ w → IsOpen s w → Spans (box_rect m) y 1 (pos 0) w
    → Spans (box_rect (followed_by (covering (rest_of_row s (pos 2) y)) (part i m))) y 1 (pos 0) w
line-spans i m s w y fits o h =
    rw (box-followed (covering {K = ComponentId} (rest_of_row s (pos 2) y)) (part i m), box-part i m)
    (spans_beside _ _ y 1 (pos 2) (pos 0) w w (omega arith) (omega (arith, ints, fits)) (omega (arith, ints, fits)) (omega arith) (rest-spans s w y fits o) h)

-- the box of a row lies on it alone, and goes from column 0 or 2 to the end
pub row-spans : (d : DocRow) (s : Sight) (w : ℕ) (y : ℤ) → 10 ≤ w → IsOpen s w → Spans (box_rect (row_picture d s (pos (column_of d)) y)) y 1 (pos (left_of (is_whole d))) w
unfolding row_picture
row-spans (HeaderRow key h) s w y fits o = rw (box-part _ (heading_picture h s (pos 0) y)) (heading-spans h s w 0 y (omega (arith, fits)) o)
row-spans (SectionRow selected h) s w y fits o =
    rw (box-followed (heading_picture h s (pos 2) y) (highlight selected s y)) (lit-spans selected _ s w y fits o (heading-spans h s w 2 y (omega (arith, fits)) o))
row-spans (LineRow key b ts) s w y fits o = line-spans (line_id key) (changed_picture b ts s (pos 4) y) s w y fits o (changed-spans b ts s w y fits o)
row-spans (MarkRow selected b t) s w y fits o = mark-spans selected b t s w y fits o
row-spans (ContextRow key ts) s w y fits o = line-spans (line_id key) (context_picture ts s (pos 4) y) s w y fits o (context-spans ts s w y fits o)
row-spans (DotsRow t) s w y fits o =
    rw (box-followed (covering {K = ComponentId} (rest_of_row s (pos 2) y)) (span_picture s (pos 8) y t))
    (spans_in _ _ y 1 (pos 2) w (omega arith) (omega (arith, ints, fits)) (rest-spans s w y fits o) (span-in s (pos 8) y (pos 2) t (omega (arith, ints))))
row-spans BlankRow s w y fits o = blank-spans s w 2 y (omega (arith, fits)) o

-- ---- rows one below another

pub both-left : (a b : Bool) → int_min (pos (left_of a)) (pos (left_of b)) ≡ pos (left_of (a || b))
both-left true true = refl
both-left true false = refl
both-left false true = refl
both-left false false = refl

pub left-fits : (b : Bool) (w : ℕ) → 10 ≤ w → left_of b < w
left-fits true w h = omega (arith, h)
left-fits false w h = omega (arith, h)

pub spans-as : (r : Rect) (y : ℤ) (n m : ℕ) (l k : ℤ) (w : ℕ) → n ≡ m → l ≡ k → Spans r y n l w → Spans r y m k w
spans-as r y n m l k w e f h = rw (e, f) at h

pub rows-span : (d : DocRow) (ds : List DocRow) (s : Sight) (w : ℕ) (y : ℤ) → 10 ≤ w → IsOpen s w → AreInner (d ∷ ds)
    → Spans (box_rect (rows_picture (d ∷ ds) s (pos 2) y)) y (suc (length ds)) (pos (left_of (is_wide (d ∷ ds)))) w
unfolding rows_picture
rows-span d [] s w y fits o inner =
    let first = rw inner.0 at (row-spans d s w y fits o) in
    rw (box-followed (row_picture d s (pos 2) y) nothing, box-none)
    (spans-as _ y 1 1 (pos (left_of (is_whole d))) (pos (left_of (is_whole d || false))) w refl (ap (λ b. pos (left_of b)) (sym (or-false (is_whole d))))
    (spans_in _ _ y 1 (pos (left_of (is_whole d))) w (omega arith) (let k = left-fits (is_whole d) w fits in omega (arith, ints, k)) first (in-nothing y 1 (pos (left_of (is_whole d))))))
rows-span d (e ∷ ds) s w y fits o inner =
    let first = rw inner.0 at (row-spans d s w y fits o) in
    let rest = rows-span e ds s w (y +ℤ pos 1) fits o inner.1 in
    rw (box-followed (row_picture d s (pos 2) y) (rows_picture (e ∷ ds) s (pos 2) (y +ℤ pos 1)))
    (spans-as _ y (1 + suc (length ds)) (suc (suc (length ds))) _ _ w (omega arith) (both-left (is_whole d) (is_wide (e ∷ ds)))
    (spans_more _ _ y 1 (suc (length ds)) (pos (left_of (is_whole d))) (pos (left_of (is_wide (e ∷ ds)))) w (omega arith) (omega arith)
    (let k = left-fits (is_whole d) w fits in omega (arith, ints, k)) (let k = left-fits (is_wide (e ∷ ds)) w fits in omega (arith, ints, k)) first rest))

-- the columns of a box that goes from column 0 or 2 to the end
pub has_box : (r : Rect) (y : ℤ) (n w : ℕ) (wide : Bool) → Spans r y n (pos (left_of wide)) w → HasBox r y n w (λ x. wide || nat_le 2 x)
has_box r y n w wide h = record {
  top = h.top;
  rows = h.rows;
  columns = λ x within.
      let b : int_lt (pos x) (end_x_of r) ≡ true = grind (arith, ints, h.right) in
      rw (b, h.left) (from wide x);
}
  where
    from : (wide : Bool) (x : ℕ) → (int_le (pos (left_of wide)) (pos x) && true) ≡ (wide || nat_le 2 x)
    from true x = let a : int_le (pos 0) (pos x) ≡ true = grind (arith, ints) in rw a refl
    from false x = elim (nat_le 2 x) as (λ b. (b && true) ≡ b) [ true ↦ refl | false ↦ refl ]
