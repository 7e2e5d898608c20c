-- How much is drawn: on one row, call after call, and on rows below one another.
use Rattle.std.proofs.Common.{◌≡◌, ℕ, suc, ◌+◌, ◌<◌, ◌≤◌, List, [], ◌∷◌, ◌++◌, length, map, drop, get_or, refl, sym, ap, ◌∙◌, arith, add-one, drop-cons, true, false}
use Rattle.std.specs.Prelude.{ℤ, pos, ◌+ℤ◌, Some, if◌then◌else◌}
use Rattle.std.proofs.lemmas.Int.{ints}
use Rattle.std.proofs.lemmas.List.{drop_all}
use Rattle.scm_cells.specs.Counts.{Counts, no_counts, plus, added}
use Rattle.scm_cells.specs.declared.rect.Rect.{Rect}
use Rattle.scm_render.specs.Drawing.{has_row}
use Rattle.scm_render.specs.Canvas.{Sight, under}
use Rattle.scm_render.proofs.CountLemmas.{counts-then}
use Rattle.scm_document.specs.declared.section_view.SectionView.{SectionView}
use Rattle.scm_document.specs.declared.file_view.FileView.{FileView}
use Rattle.scm_document.specs.declared.commit_view.CommitView.{CommitView}
use Rattle.scm_types.specs.declared.keys.LineKey.{LineKey}
use Rattle.scm_document.specs.declared.section_line_view.SectionLineView.{SectionLineView}
use Rattle.scm_document.specs.declared.section_line_view.SectionLineViewInner.{SectionLineViewInner}
use Rattle.scm_document.specs.declared.section_line_view.SectionLineViewInner.TheVariants as inner
use Rattle.scm_document.specs.Rows.{DocRow, view_row, ShownSection, section_height, section_rows, shown_of_view, shown_file, file_rows, document_of}
use Rattle.scm_document.specs.ViewColumns.{view_mask, next_view, views_counts}
use Rattle.scm_widgets.specs.Counts.{drawn, on_row}
use Rattle.scm_document.specs.Counts.{row_calls, row_counts, rows_counts, line_calls, line_counts, sections_counts, file_counts, pinned_counts, files_counts, message_counts, document_counts}
use Rattle.scm_document.proofs.SectionsLemmas.{section-size}

pub counts-same : (a b : Counts) → a.rows ≡ b.rows → a.calls ≡ b.calls → a ≡ b
counts-same a b p q = let e : ◌≡◌ {A = Counts} (record { rows = a.rows; calls = a.calls }) (record { rows = b.rows; calls = b.calls }) = cc (p, q) in e

pub plus-assoc : (a b c : Counts) → plus (plus a b) c ≡ plus a (plus b c)
plus-assoc a b c = counts-same (plus (plus a b) c) (plus a (plus b c)) (omega arith) (omega arith)

pub plus-none : (a : Counts) → plus a no_counts ≡ a
plus-none a = counts-same (plus a no_counts) a (omega arith) (omega arith)

pub none-plus : (a : Counts) → plus no_counts a ≡ a
none-plus a = counts-same (plus no_counts a) a (omega arith) (omega arith)

-- ---- calls on one row

pub on_row-plus : (v : Rect) (y : ℤ) (a b : Counts) → plus (on_row v y a) (on_row v y b) ≡ on_row v y (plus a b)
unfolding on_row
on_row-plus v y a b = elim (has_row v y) as (λ t. plus (if t then a else no_counts) (if t then b else no_counts) ≡ (if t then plus a b else no_counts)) [ true ↦ refl | false ↦ refl ]

-- one call, and then another in the same sight
pub on_row-then : (c d e : Counts) (v w : Rect) (y : ℤ) (a b : Counts) → w ≡ v → d ≡ added c (on_row v y a) → e ≡ added d (on_row w y b) → e ≡ added c (on_row v y (plus a b))
on_row-then c d e v w y a b s p q = counts-then c d e (on_row v y a) (on_row v y b) p (q ∙ ap (λ r. added d (on_row r y b)) s) ∙ ap (added c) (on_row-plus v y a b)

-- ---- rows below one another

-- the row of a line counts what the line's component does
view_row-calls : (w : SectionLineView) → row_calls (view_row w) ≡ line_calls w.inner
view_row-calls w = go w.line_key w.inner
  where
    go : (k : LineKey) (i : SectionLineViewInner) → row_calls (view_row (record { line_key = k; inner = i })) ≡ line_calls i
    go k (inner.Unchanged l n) = refl
    go k (inner.Changed b change l) = refl

pub view_row-counts : (w : SectionLineView) (v : Rect) (y : ℤ) → row_counts (view_row w) v y ≡ line_counts w.inner v y
view_row-counts w v y = ap (λ n. on_row v y (drawn 1 n)) (view_row-calls w)

pub rows_counts-append : (rs qs : List DocRow) (v : Rect) (y : ℤ) → rows_counts (rs ++ qs) v y ≡ plus (rows_counts rs v y) (rows_counts qs v (y +ℤ pos (length rs)))
unfolding rows_counts
rows_counts-append [] qs v y =
    let same : y ≡ y +ℤ pos 0 = omega (arith, ints) in
    ap (rows_counts qs v) same ∙ sym (none-plus (rows_counts qs v (y +ℤ pos 0)))
rows_counts-append (r ∷ rs) qs v y =
    let same : (y +ℤ pos 1) +ℤ pos (length rs) ≡ y +ℤ pos (suc (length rs)) = omega (arith, ints) in
    ap (plus (row_counts r v y)) (rows_counts-append rs qs v (y +ℤ pos 1) ∙ ap (λ z. plus (rows_counts rs v (y +ℤ pos 1)) (rows_counts qs v z)) same)
    ∙ sym (plus-assoc (row_counts r v y) (rows_counts rs v (y +ℤ pos 1)) (rows_counts qs v (y +ℤ pos (suc (length rs)))))

-- ---- sections below one another

pub sections_counts-none : (ps : List ShownSection) (v : Rect) (y : ℤ) → ps ≡ [] → sections_counts ps v y ≡ no_counts
unfolding sections_counts
sections_counts-none ps v y e = rw e refl

pub sections_counts-more : (left : List SectionView) (v : SectionView) (vs : List SectionView) (r : Rect) (y : ℤ) → left ≡ v ∷ vs
    → sections_counts (map shown_of_view left) r y
    ≡ plus (rows_counts (section_rows v) r y) (sections_counts (map shown_of_view vs) r (y +ℤ pos (section_height v v.section.now)))
unfolding sections_counts
sections_counts-more left v vs r y e =
    ap (λ ws. sections_counts (map shown_of_view ws) r y) e
    ∙ ap (λ n. plus (rows_counts (section_rows v) r y) (sections_counts (map shown_of_view vs) r (y +ℤ pos n))) (section-size v)

-- ---- files below one another

pub files_counts-more : (files : List FileView) (i : ℕ) (d : FileView) (v : Rect) (row y : ℤ) → i < length files
    → files_counts (map shown_file (drop i files)) v row y
    ≡ plus (plus (file_counts (shown_file (get_or files i d)) v y) (pinned_counts (shown_file (get_or files i d)) v row y))
    (files_counts (map shown_file (drop (i + 1) files)) v row (y +ℤ pos (length (file_rows (shown_file (get_or files i d))))))
unfolding files_counts
files_counts-more files i d v row y h = rw (add-one, drop-cons files i d h) refl

pub files_counts-end : (files : List FileView) (i : ℕ) (v : Rect) (row y : ℤ) → length files ≤ i → files_counts (map shown_file (drop i files)) v row y ≡ no_counts
unfolding files_counts
files_counts-end files i v row y h = rw (drop_all i files h) refl

-- ---- calls that draw rows

-- the rows of a message
pub message-counted : (c p q d e f : Counts) (v : Rect) (y : ℤ) (text : List ℕ) → p ≡ added c (on_row v y (drawn 1 0)) → q ≡ added p (on_row v y (drawn 0 1)) → d ≡ added q (on_row v (y +ℤ pos 1) (drawn 1 3))
    → e ≡ added d (on_row v (y +ℤ pos 2) (drawn 1 0)) → f ≡ added e (on_row v (y +ℤ pos 2) (drawn 0 1)) → f ≡ added c (message_counts (Some text) v y)
unfolding message_counts
message-counted c p q d e f v y text hp hq hd he hf =
    let upper = on_row-then c p q v v y (drawn 1 0) (drawn 0 1) refl hp hq in
    let lower = on_row-then d e f v v (y +ℤ pos 2) (drawn 1 0) (drawn 0 1) refl he hf in
    counts-then c q f (on_row v y (drawn 1 1)) (plus (on_row v (y +ℤ pos 1) (drawn 1 3)) (on_row v (y +ℤ pos 2) (drawn 1 1))) upper
    (counts-then q d f (on_row v (y +ℤ pos 1) (drawn 1 3)) (on_row v (y +ℤ pos 2) (drawn 1 1)) hd lower)

-- ---- views beside each other

pub views_counts-more : (vs : List CommitView) (i : ℕ) (d : CommitView) (n : ℕ) (s : Sight) (x z : ℤ) → i < length vs → z ≡ next_view (get_or vs i d) s x n
    → views_counts (drop i vs) n s x ≡ plus (document_counts (document_of (get_or vs i d)) (under (view_mask s x n) s) (pos 1)) (views_counts (drop (i + 1) vs) n s z)
unfolding views_counts
views_counts-more vs i d n s x z h e = rw (add-one, drop-cons vs i d h, e) refl

pub views_counts-end : (vs : List CommitView) (i n : ℕ) (s : Sight) (x : ℤ) → length vs ≤ i → views_counts (drop i vs) n s x ≡ no_counts
unfolding views_counts
views_counts-end vs i n s x h = rw (drop_all i vs h) refl
