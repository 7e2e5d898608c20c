-- How many columns the box of a document has, cut to the columns that its mask lets through: all of them, but no more than the empty-state
-- text has if the document draws that alone.
use Rattle.std.proofs.Common.{◌≡◌, ℕ, ◌+◌, ◌-◌, ◌<◌, ◌≤◌, ◌==◌, min, Bool, true, false, List, [], ◌∷◌, length, refl, ap, ap₂, subst, ◌∙◌, arith, ◌⊎◌, inl, inr, ⊎_elim, Option, Some, None}
use Rattle.std.specs.Prelude.{ℤ, pos, ◌+ℤ◌, ◌-ℤ◌, ◌≤ℤ◌, ◌&&◌, int_lt, if◌then◌else◌}
use Rattle.std.specs.Int.{int_min, int_max}
use Rattle.std.proofs.lemmas.Bool.{cases_lt}
use Rattle.std.proofs.lemmas.Bool.Decides.{nat_tests}
use Rattle.std.proofs.lemmas.Int.{ints, clamps}
use Rattle.scm_cells.specs.Clusters.{text_width}
use Rattle.scm_cells.specs.Mask.{apply_of}
use Rattle.scm_cells.specs.Row.{ellipsis}
use Rattle.scm_cells.specs.Rect.{end_x_of, is_empty, or_zero, rect_between}
use Rattle.scm_cells.specs.declared.rect.Rect.{Rect}
use Rattle.scm_cells.specs.declared.mask.Mask.{Mask}
use Rattle.scm_cells.proofs.PrintableLemmas.{text_width-printable}
use Rattle.scm_cells.proofs.RectLemmas.{places}
use Rattle.scm_cells.proofs.WidthLemmas.{width-ellipsis}
use Rattle.scm_render.specs.Around.{around, join, no_rect}
use Rattle.scm_render.specs.Canvas.{Sight, under}
use Rattle.scm_render.specs.Centring.{centred_rect, centred_gap}
use Rattle.scm_render.specs.Drawing.{reach, row_rect, texts_width, line_picture, span_picture, text_picture, blank_picture}
use Rattle.scm_render.specs.Picture.{nothing, followed_by, part, box_rect}
use Rattle.scm_render.proofs.AroundLemmas.{around-one}
use Rattle.scm_render.proofs.SpanLemmas.{empty_cases, join-end_x, join-end_y, join-x, join-y, join_empty_left, join_none, not_empty}
use Rattle.scm_widgets.specs.declared.ids.ComponentId.{ComponentId}
use Rattle.scm_widgets.specs.declared.ids.ComponentId.TheVariants as ids
use Rattle.scm_widgets.specs.Boxes.{IdBox}
use Rattle.scm_widgets.specs.Pictures.{to_end, box_part, box_picture, fold_column, blank_rest}
use Rattle.scm_widgets.specs.Texts.{box_text}
use Rattle.scm_widgets.proofs.BoxLemmas.{box-width}
use Rattle.scm_widgets.proofs.DrawsStrips.{box-followed, box-part}
use Rattle.scm_widgets.proofs.MenuLemmas.{not-empty}
use Rattle.scm_rows.specs.Heights.{message_height}
use Rattle.scm_document.specs.Pictures.{body_picture, document_picture, file_mask, files_picture, heading_mask, heading_picture, heading_width, message_picture, button_row_picture, no_files_picture, one_file_picture, pinned_picture, row_picture, sections_picture, shown_file_picture, title_picture}
use Rattle.scm_document.specs.Rows.{Heading, ShownFile, Document, file_id, file_rows}
use Rattle.scm_document.specs.Texts.{no_files_text}
use Rattle.scm_strips.specs.declared.area.Area.{Area}
use Rattle.scm_strips.specs.Shows.{end_column}
use Rattle.scm_screen.specs.Beside.{drawn_width}
use Rattle.scm_beside_laws.proofs.DocumentPaintLemmas.{made}
use Rattle.scm_beside_laws.proofs.SeenLemmas.{IsSeen, fold-at, under-seen}

-- ---- rectangles that have some columns

-- the rectangle has a row, and all columns from l to e
record Has (r : Rect) (l e : ℤ) : Type 0 where
  some : is_empty r ≡ false
  left : r.x ≤ℤ l
  right : e ≤ℤ end_x_of r

-- rectangles that are not empty, joined
joined : (a b : Rect) → is_empty a ≡ false → is_empty b ≡ false → 0 < a.width → 0 < a.height → is_empty (join a b) ≡ false
joined a b p q w h =
    let ex = join-x a b p q in
    let ey = join-y a b p q in
    let fx = join-end_x a b p q in
    let fy = join-end_y a b p q in
    not_empty (join a b) (omega (arith, ints, clamps, ex, fx, w)) (omega (arith, ints, clamps, ey, fy, h))

is-some : (r : Rect) → is_empty r ≡ false → (0 < r.width) × (0 < r.height)
is-some r e = (grind (arith, nat_tests), grind (arith, nat_tests))

-- joined with another one it still has them
has-first : (a b : Rect) (l e : ℤ) → Has a l e → Has (join a b) l e
has-first a b l e h = go (empty_cases b)
  where
    go : (is_empty b ≡ true) ⊎ ((is_empty b ≡ false) × (0 < b.width) × (0 < b.height)) → Has (join a b) l e
    go (inl none) = rw (join_none a b none) h
    go (inr q) =
        let size = is-some a h.some in
        let ex = join-x a b h.some q.0 in
        let fx = join-end_x a b h.some q.0 in
        record {
          some = joined a b h.some q.0 size.0 size.1;
          left = omega (arith, ints, clamps, ex, h.left);
          right = omega (arith, ints, clamps, fx, h.right);
        }

has-second : (a b : Rect) (l e : ℤ) → Has b l e → Has (join a b) l e
has-second a b l e h = go (empty_cases a)
  where
    go : (is_empty a ≡ true) ⊎ ((is_empty a ≡ false) × (0 < a.width) × (0 < a.height)) → Has (join a b) l e
    go (inl none) = rw (join_empty_left a b none h.some) h
    go (inr p) =
        let ex = join-x a b p.0 h.some in
        let fx = join-end_x a b p.0 h.some in
        record {
          some = joined a b p.0 h.some p.1 p.2;
          left = omega (arith, ints, clamps, ex, h.left);
          right = omega (arith, ints, clamps, fx, h.right);
        }

-- from the second one's first column to the first one's end
has-both : (a b : Rect) (k e l f : ℤ) → Has a k e → Has b l f → Has (join a b) l e
has-both a b k e l f p q = record { some = (has-first a b k e p).some; left = (has-second a b l f q).left; right = (has-first a b k e p).right }

has-to : (r : Rect) (l e f : ℤ) → e ≡ f → Has r l e → Has r l f
has-to r l e f p h = subst (λ k. Has r l k) p h

-- columns of one row
has-row : (x y : ℤ) (n : ℕ) → 0 < n → Has (row_rect x y n) x (x +ℤ pos n)
has-row x y n some = record { some = not_empty (row_rect x y n) some (omega arith); left = omega (arith, ints); right = omega (arith, ints) }

-- ---- boxes of pictures

pub box-blank : (s : Sight) (r : Rect) → box_rect (blank_picture {K = ComponentId} s r) ≡ join no_rect r
unfolding box_rect blank_picture
box-blank s r = around-one no_rect r

pub box-empty : box_rect (nothing {K = ComponentId}) ≡ no_rect
unfolding box_rect nothing around
box-empty = refl

pub box-text : (s : Sight) (x y : ℤ) (t : List ℕ) → box_rect (span_picture {K = ComponentId} s x y t) ≡ join no_rect (row_rect x y (text_width t))
unfolding box_rect span_picture
box-text s x y t = around-one no_rect _

pub box-texts : (s : Sight) (x y : ℤ) (ts : List (List ℕ)) → box_rect (line_picture {K = ComponentId} s x y ts) ≡ join no_rect (row_rect x y (texts_width ts))
unfolding box_rect line_picture
box-texts s x y ts = around-one no_rect _

-- a checkbox or a fold box has three columns
pub box-of : (b : IdBox) (s : Sight) (x y : ℤ) → box_rect (box_part b s x y) ≡ row_rect x y 3
unfolding box_picture
box-of b s x y =
    box-part b.id (box_picture b s x y) ∙ box-text s x y (box_text b) ∙ ap (λ n. join no_rect (row_rect x y n)) (box-width b) ∙ not-empty x y 3 (omega arith)

-- blanked columns of one row
has-blank : (s : Sight) (x y : ℤ) (n : ℕ) → 0 < n → Has (box_rect (blank_picture {K = ComponentId} s (row_rect x y n))) x (x +ℤ pos n)
has-blank s x y n some = rw (box-blank s (row_rect x y n), not-empty x y n some) (has-row x y n some)

-- ---- a message has all columns of its area, and so have files

has-message : (commit : ℕ) (message : List ℕ) (s : Sight) (w : ℕ) (a : Area) (y : ℤ) → 10 ≤ a.width → IsSeen s w a
    → Has (box_rect (message_picture commit (Some message) s (pos a.left) y)) (pos a.left) (pos (end_column a))
unfolding message_picture
has-message commit message s w a y wide o =
    let l = pos a.left in
    let n : to_end s l ≡ a.width = omega (arith, places, o.low, o.columns) in
    let blank : Has (box_rect (blank_rest s l y)) l (pos (end_column a)) = rw n (has-blank s l y a.width (omega (arith, wide))) in
    rw (box-followed (blank_rest s l y) (followed_by (button_row_picture commit message s l (y +ℤ pos 1)) (blank_rest s l (y +ℤ pos 2))))
    (has-first _ _ l (pos (end_column a)) blank)

has-heading : (h : Heading) (s : Sight) (w : ℕ) (a : Area) (y : ℤ) → 10 ≤ a.width → IsSeen s w a
    → Has (box_rect (heading_picture h s (pos a.left) y)) (pos a.left) (pos (end_column a))
unfolding heading_picture title_picture
has-heading h s w a y wide o =
    let l = pos a.left in
    let fold = fold-at s w a (omega (arith, wide)) o in
    let n : heading_width s l ≡ a.width - 3 = omega (arith, places, fold, wide) in
    let t = under (heading_mask s l y) s in
    let some : 0 < heading_width s l = omega (arith, n, wide) in
    let beside = followed_by (box_part h.toggle t l y) (text_picture t (l +ℤ pos 4) y (h.title ∷ [])) in
    let box : Has (box_rect (box_part h.fold s (fold_column s) y)) (fold_column s) (fold_column s +ℤ pos 3) =
    rw (box-of h.fold s (fold_column s) y) (has-row (fold_column s) y 3 (omega arith)) in
    let title : Has (box_rect (followed_by (blank_picture t (row_rect l y (heading_width s l))) beside)) l (l +ℤ pos (heading_width s l)) =
    rw (box-followed (blank_picture t (row_rect l y (heading_width s l))) beside) (has-first _ _ l (l +ℤ pos (heading_width s l)) (has-blank t l y (heading_width s l) some)) in
    let end : fold_column s +ℤ pos 3 ≡ pos (end_column a) = omega (arith, ints, fold, wide) in
    rw (box-followed (box_part h.fold s (fold_column s) y) (followed_by (blank_picture t (row_rect l y (heading_width s l))) beside))
    (has-to _ l (fold_column s +ℤ pos 3) (pos (end_column a)) end (has-both _ _ (fold_column s) (fold_column s +ℤ pos 3) l (l +ℤ pos (heading_width s l)) box title))

has-file : (f : ShownFile) (s : Sight) (w : ℕ) (a : Area) (y : ℤ) → 10 ≤ a.width → IsSeen s w a
    → Has (box_rect (one_file_picture f s (pos a.left) y)) (pos a.left) (pos (end_column a))
unfolding one_file_picture shown_file_picture row_picture
has-file f s w a y wide o =
    let l = pos a.left in
    let e = pos (end_column a) in
    let t = under (file_mask s l y) s in
    let header = part (ids.FileViewHeader f.key) (heading_picture f.heading t l y) in
    let sections = sections_picture f.sections t (l +ℤ pos 2) (y +ℤ pos 1) in
    let own : Has (box_rect header) l e = rw (box-part (ids.FileViewHeader f.key) (heading_picture f.heading t l y)) (has-heading f.heading t w a y wide (under-seen s w a y None o)) in
    rw (
      box-followed (part (file_id f.key) (followed_by header sections)) (pinned_picture f s l y),
      box-part (file_id f.key) (followed_by header sections),
      box-followed header sections,
    )
    (has-first _ _ l e (has-first _ _ l e own))

-- ---- the columns that a mask leaves of a box

abbrev area_mask : Area → ℤ → Mask
area_mask a y = record { x = pos a.left; y = y; width = Some a.width; height = None }

cut-width : (a : Area) (y : ℤ) (r : Rect) → (apply_of (area_mask a y) r).width ≡ or_zero (int_min (pos a.left +ℤ pos a.width) (end_x_of r) -ℤ int_max (pos a.left) r.x)
unfolding rect_between
cut-width a y r = refl

cut-all : (a : Area) (y : ℤ) (r : Rect) → Has r (pos a.left) (pos (end_column a)) → (apply_of (area_mask a y) r).width ≡ a.width
cut-all a y r h = cut-width a y r ∙ omega (arith, places, h.left, h.right)

-- ---- the empty-state text

words-columns : texts_width (no_files_text ∷ []) ≡ 29
unfolding texts_width
words-columns = rw (text_width-printable no_files_text refl) refl

-- where the text begins in v columns
words-fit : (v : ℕ) → 29 ≤ v → centred_gap v 29 50 + 29 ≤ v
words-fit v h = omega (arith, h)

words-first : (v : ℕ) → v < 29 → centred_gap v 29 50 ≡ 0
words-first v h = omega (arith, h)

-- the box of a text of 29 columns from column x on, with an ellipsis before column e if the text ends behind e
pub words-box : (s : Sight) (x y : ℤ)
    → box_rect (text_picture {K = ComponentId} s x y (no_files_text ∷ []))
    ≡ join (row_rect x y 29) (if int_lt (end_x_of (reach s)) (x +ℤ pos 29) then row_rect (end_x_of (reach s) -ℤ pos 1) y 1 else no_rect)
unfolding text_picture
words-box s x y =
    let end = end_x_of (reach s) in
    box-followed (line_picture {K = ComponentId} s x y (no_files_text ∷ [])) _
    ∙ ap₂ (λ (a b : Rect). join a b)
    (box-texts s x y (no_files_text ∷ []) ∙ ap (λ n. join no_rect (row_rect x y n)) words-columns ∙ not-empty x y 29 (omega arith))
    (ap (λ n. box_rect (if int_lt end (x +ℤ pos n) then span_picture {K = ComponentId} s (end -ℤ pos 1) y ellipsis else nothing)) words-columns ∙ go (int_lt end (x +ℤ pos 29)))
  where
    go : (b : Bool) → box_rect (if b then span_picture {K = ComponentId} s (end_x_of (reach s) -ℤ pos 1) y ellipsis else nothing)
        ≡ (if b then row_rect (end_x_of (reach s) -ℤ pos 1) y 1 else no_rect)
    go true =
        box-text s (end_x_of (reach s) -ℤ pos 1) y ellipsis ∙ ap (λ n. join no_rect (row_rect (end_x_of (reach s) -ℤ pos 1) y n)) width-ellipsis
        ∙ not-empty (end_x_of (reach s) -ℤ pos 1) y 1 (omega arith)
    go false = box-empty

-- v columns from column 0 on
abbrev first_columns : ℕ → Area
first_columns v = record { left = 0; width = v }

-- the columns of that box in v columns: all of them if it is cut, else its own
words-cut : (v : ℕ) (x y m : ℤ) → 10 ≤ v → x ≡ pos (centred_gap v 29 50)
    → (apply_of (area_mask (first_columns v) m) (join (row_rect x y 29) (if int_lt (pos v) (x +ℤ pos 29) then row_rect (pos v -ℤ pos 1) y 1 else no_rect))).width ≡ min v 29
words-cut v x y m wide e = ⊎_elim narrow broad (cases_lt v 29)
  where
    narrow : v < 29 → (apply_of (area_mask (first_columns v) m) (join (row_rect x y 29) (if int_lt (pos v) (x +ℤ pos 29) then row_rect (pos v -ℤ pos 1) y 1 else no_rect))).width ≡ min v 29
    narrow h =
        let first = words-first v h in
        let cut : int_lt (pos v) (x +ℤ pos 29) ≡ true = grind (arith, ints, first, e, h) in
        let ex = join-x (row_rect x y 29) (row_rect (pos v -ℤ pos 1) y 1) refl refl in
        let fx = join-end_x (row_rect x y 29) (row_rect (pos v -ℤ pos 1) y 1) refl refl in
        rw cut (cut-width (first_columns v) m (join (row_rect x y 29) (row_rect (pos v -ℤ pos 1) y 1)) ∙ omega (arith, places, ex, fx, first, e, h, wide))

    broad : 29 ≤ v → (apply_of (area_mask (first_columns v) m) (join (row_rect x y 29) (if int_lt (pos v) (x +ℤ pos 29) then row_rect (pos v -ℤ pos 1) y 1 else no_rect))).width ≡ min v 29
    broad h =
        let fits = words-fit v h in
        let whole : int_lt (pos v) (x +ℤ pos 29) ≡ false = grind (arith, ints, fits, e) in
        rw (whole, join_none (row_rect x y 29) no_rect refl) (cut-width (first_columns v) m (row_rect x y 29) ∙ omega (arith, places, fits, e, h))

words-width : (s : Sight) (w v : ℕ) (m : ℤ) → 10 ≤ v → v ≤ 65535 → IsSeen s w (first_columns v)
    → (apply_of (area_mask (first_columns v) m) (join no_rect (box_rect (no_files_picture s (pos 0) (pos 1))))).width ≡ min v 29
unfolding no_files_picture centred_rect
words-width s w v m wide p o =
    let width : min (reach s).width 65535 ≡ v = omega (arith, o.columns, p) in
    let x = pos 0 +ℤ (pos 0 +ℤ pos (centred_gap (min (reach s).width 65535) 29 50)) in
    let y = pos 1 +ℤ (pos 0 +ℤ pos (centred_gap (min (reach s).height 65535) 1 50)) in
    let column : x ≡ pos (centred_gap v 29 50) = ap (λ k. pos 0 +ℤ (pos 0 +ℤ pos (centred_gap k 29 50))) width ∙ omega (arith, ints) in
    let end : end_x_of (reach s) ≡ pos v = omega (arith, ints, o.low, o.columns) in
    let box = join (row_rect x y 29) (if int_lt (end_x_of (reach s)) (x +ℤ pos 29) then row_rect (end_x_of (reach s) -ℤ pos 1) y 1 else no_rect) in
    let some : is_empty box ≡ false = (has-first (row_rect x y 29) _ x (x +ℤ pos 29) (has-row x y 29 (omega arith))).some in
    ap (λ r. (apply_of (area_mask (first_columns v) m) (join no_rect r)).width) (words-box s x y)
    ∙ ap (λ r. (apply_of (area_mask (first_columns v) m) r).width) (join_empty_left no_rect box refl some)
    ∙ ap (λ e. (apply_of (area_mask (first_columns v) m) (join (row_rect x y 29) (if int_lt e (x +ℤ pos 29) then row_rect (e -ℤ pos 1) y 1 else no_rect))).width) end
    ∙ words-cut v x y m wide column

-- ---- documents

pub no-message : (commit : ℕ) (s : Sight) (x y : ℤ) → box_rect (message_picture commit None s x y) ≡ no_rect
unfolding message_picture
no-message commit s x y = box-empty

by-parts : (commit : ℕ) (message : Option (List ℕ)) (fs : List ShownFile) (s : Sight) (w v : ℕ) (m : ℤ) → 10 ≤ v → v ≤ 65535 → IsSeen s w (first_columns v)
    → (apply_of (area_mask (first_columns v) m) (box_rect (document_picture (made commit message fs) s (pos 0) (pos 1)))).width ≡ drawn_width v (made commit message fs)
unfolding document_picture files_picture
by-parts commit None [] s w v m wide p o =
    let said = message_picture commit None s (pos 0) (pos 1) in
    let words = no_files_picture s (pos 0) (pos 1) in
    ap (λ r. (apply_of (area_mask (first_columns v) m) r).width)
    (box-followed (part ids.CommitMessageView said) words ∙ ap (λ r. join r (box_rect words)) (box-part ids.CommitMessageView said ∙ no-message commit s (pos 0) (pos 1)))
    ∙ words-width s w v m wide p o
by-parts commit None (f ∷ fs) s w v m wide p o =
    let a = first_columns v in
    let said = message_picture commit None s (pos 0) (pos 1) in
    let below = pos (1 + message_height None) in
    let rest = files_picture fs s (pos 0) (below +ℤ pos (length (file_rows f))) in
    let some : (length (f ∷ fs) == 0) ≡ false = grind arith in
    let own = has-file f s w a below wide o in
    let files = followed_by (one_file_picture f s (pos 0) below) rest in
    let some_file : Has (box_rect files) (pos 0) (pos (end_column a)) =
    rw (box-followed (one_file_picture f s (pos 0) below) rest) (has-first _ _ (pos 0) (pos (end_column a)) own) in
    let all : Has (box_rect (followed_by (part ids.CommitMessageView said) files)) (pos 0) (pos (end_column a)) =
    rw (box-followed (part ids.CommitMessageView said) files) (has-second _ _ (pos 0) (pos (end_column a)) some_file) in
    rw some (cut-all a m (box_rect (followed_by (part ids.CommitMessageView said) files)) all)
by-parts commit (Some message) fs s w v m wide p o =
    let a = first_columns v in
    let said = message_picture commit (Some message) s (pos 0) (pos 1) in
    let body = body_picture fs s (pos 0) (pos 1) (pos (1 + message_height (Some message))) in
    let own : Has (box_rect (part ids.CommitMessageView said)) (pos 0) (pos (end_column a)) =
    rw (box-part ids.CommitMessageView said) (has-message commit message s w a (pos 1) wide o) in
    let all : Has (box_rect (followed_by (part ids.CommitMessageView said) body)) (pos 0) (pos (end_column a)) =
    rw (box-followed (part ids.CommitMessageView said) body) (has-first _ _ (pos 0) (pos (end_column a)) own) in
    cut-all a m _ all ∙ both-ways (length fs == 0)
  where
    both-ways : (b : Bool) → v ≡ (if b && false then min v 29 else v)
    both-ways true = refl
    both-ways false = refl

-- of v columns from column 0 on, a document draws so many
pub document-width : (d : Document) (s : Sight) (w v : ℕ) (m : ℤ) → 10 ≤ v → v ≤ 65535 → IsSeen s w (record { left = 0; width = v })
    → (apply_of (record { x = pos 0; y = m; width = Some v; height = None }) (box_rect (document_picture d s (pos 0) (pos 1)))).width ≡ drawn_width v d
document-width d s w v m wide p o = by-parts d.commit d.message d.files s w v m wide p o
