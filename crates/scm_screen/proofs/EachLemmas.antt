-- Rows of the screen, each painted by its number.
use Rattle.std.proofs.Common.{◌≡◌, ℕ, zero, suc, ◌+◌, ◌<◌, ◌≤◌, ◌==◌, true, false, List, [], ◌∷◌, ◌++◌, length, take, drop, refl, sym, ap, ap₂, ◌∙◌, arith, append-nil, replicate, Option, Some, None, cond}
use Rattle.std.specs.Prelude.{if◌then◌else◌, slice_index_or, slice_set}
use Rattle.std.proofs.lemmas.Bool.Decides.{nat_tests}
use Rattle.std.proofs.lemmas.List.{take_all, drop_all, length-map, length-replicate}
use Rattle.scm_cells.specs.Counts.{Counts, added}
use Rattle.scm_render.proofs.CountLemmas.{raised_by-most}
use Rattle.scm_render.specs.Canvas.{Row}
use Rattle.scm_widgets.specs.Blanks.{blank_row}
use Rattle.scm_widgets.specs.Counts.{drawn}
use Rattle.scm_widgets.specs.declared.ids.ComponentId.{ComponentId}
use Rattle.scm_widgets.specs.Layers.{Layer, shown_by, strip_at}
use Rattle.scm_strips.specs.declared.area.Area.{Area}
use Rattle.scm_strips.specs.AreaStrips.{area_layers}
use Rattle.scm_strips.specs.Shows.{AreaRow, FileRow, MessageRow, MarginRow, WordsRow, calls_of}
use Rattle.scm_types.specs.declared.file.File.{File}
use Rattle.scm_document.specs.Rows.{HeaderRow, SectionRow, LineRow, MarkRow, ContextRow, DotsRow, BlankRow, Document, shown_file}
use Rattle.scm_view.specs.ViewState.{ViewState, file_views_of}
use Rattle.scm_view.specs.Window.{inline_document, rows_from}
use Rattle.scm_screen.specs.DocumentRows.{AreFew, each_row, painted_rows, pinned_on, row_over, row_shown, with_document, with_shown, words_row}
use Rattle.scm_screen.proofs.RowLawLemmas.{rows-show-layers}

-- ---- two paintings

pub each-same : (f g : ℕ → Row → Row) (z : ℕ) (rows : List Row) → ((y : ℕ) (row : Row) → f y row ≡ g y row) → each_row f z rows ≡ each_row g z rows
unfolding each_row
each-same f g z [] h = refl
each-same f g z (row ∷ rows) h = ap₂ (λ (r : Row) (rs : List Row). r ∷ rs) (h z row) (each-same f g (suc z) rows h)

-- one after the other
pub each-twice : (f g : ℕ → Row → Row) (z : ℕ) (rows : List Row) → each_row g z (each_row f z rows) ≡ each_row (λ (y : ℕ) (row : Row). g y (f y row)) z rows
unfolding each_row
each-twice f g z [] = refl
each-twice f g z (row ∷ rows) = ap (λ (rs : List Row). g z (f z row) ∷ rs) (each-twice f g (suc z) rows)

pub each-long : (f : ℕ → Row → Row) (z : ℕ) (rows : List Row) → length (each_row f z rows) ≡ length rows
unfolding each_row
each-long f z [] = refl
each-long f z (row ∷ rows) = ap suc (each-long f (suc z) rows)

-- ---- a painting of one row

-- a row is painted if it is row t
abbrev pub only_on : Area → ℕ → Option AreaRow → ℕ → Row → Row
only_on a t o z row = with_shown a (if z == t then o else None) row

pub none-below : (a : Area) (t : ℕ) (o : Option AreaRow) (z : ℕ) (rows : List Row) → t < z → each_row (only_on a t o) z rows ≡ rows
unfolding each_row
none-below a t o z [] h = refl
none-below a t o z (row ∷ rows) h =
    let other : (z == t) ≡ false = grind (arith, nat_tests, h) in
    ap₂ (λ (r : Row) (rs : List Row). r ∷ rs) (ap (λ b. with_shown a (if b then o else None) row) other) (none-below a t o (suc z) rows (omega (arith, h)))

pub none-above : (a : Area) (t : ℕ) (o : Option AreaRow) (z : ℕ) (rows : List Row) → z + length rows ≤ t → each_row (only_on a t o) z rows ≡ rows
unfolding each_row
none-above a t o z [] h = refl
none-above a t o z (row ∷ rows) h =
    let other : (z == t) ≡ false = grind (arith, nat_tests, h) in
    ap₂ (λ (r : Row) (rs : List Row). r ∷ rs) (ap (λ b. with_shown a (if b then o else None) row) other) (none-above a t o (suc z) rows (omega (arith, h)))

pub one-painted : (a : Area) (t : ℕ) (o : Option AreaRow) (z y : ℕ) (rows : List Row) → t ≡ z + y → y < length rows
    → slice_set rows y (with_shown a o (slice_index_or rows y [])) ≡ each_row (only_on a t o) z rows
unfolding each_row
one-painted a t o z y [] e h = absurd (omega (arith, h))
one-painted a t o z zero (row ∷ rows) e h =
    let here : (z == t) ≡ true = grind (arith, nat_tests, e) in
    ap₂ (λ (r : Row) (rs : List Row). r ∷ rs) (ap (λ b. with_shown a (if b then o else None) row) (sym here)) (sym (none-below a t o (suc z) rows (omega (arith, e))))
one-painted a t o z (suc y) (row ∷ rows) e h =
    let other : (z == t) ≡ false = grind (arith, nat_tests, e) in
    ap₂ (λ (r : Row) (rs : List Row). r ∷ rs) (ap (λ b. with_shown a (if b then o else None) row) (sym other)) (one-painted a t o (suc z) y rows (omega (arith, e)) (omega (arith, h)))

-- ---- the loop

-- the rows from row n on are still to be painted
each-more : (f : ℕ → Row → Row) (z n : ℕ) (rows whole : List Row) → n < length rows
    → take n rows ++ each_row f (z + n) (drop n rows) ≡ whole
    → take (suc n) (slice_set rows n (f (z + n) (slice_index_or rows n []))) ++ each_row f (z + suc n) (drop (suc n) (slice_set rows n (f (z + n) (slice_index_or rows n [])))) ≡ whole
unfolding each_row
each-more f z zero [] whole h e = absurd (omega (arith, h))
each-more f z zero (row ∷ rows) whole h e =
    let one : z + suc zero ≡ suc (z + 0) = omega arith in
    ap (λ k. f (z + 0) row ∷ each_row f k rows) one ∙ e
each-more f z (suc n) [] whole h e = absurd (omega (arith, h))
each-more f z (suc n) (row ∷ rows) whole h e =
    let next : z + suc n ≡ suc z + n = omega arith in
    let last : z + suc (suc n) ≡ suc z + suc n = omega arith in
    ap₂ (λ k m. row ∷ (take (suc n) (slice_set rows n (f k (slice_index_or rows n []))) ++ each_row f m (drop (suc n) (slice_set rows n (f k (slice_index_or rows n [])))))) next last
    ∙ ap (λ (rs : List Row). row ∷ rs) (each-more f (suc z) n rows (take n rows ++ each_row f (suc z + n) (drop n rows)) (omega (arith, h)) refl)
    ∙ ap (λ k. row ∷ (take n rows ++ each_row f k (drop n rows))) (sym next) ∙ e

-- the same, where `next` are the rows after row n was painted
pub each-set : (f : ℕ → Row → Row) (z n : ℕ) (rows next whole : List Row) → n < length rows → next ≡ slice_set rows n (f (z + n) (slice_index_or rows n []))
    → take n rows ++ each_row f (z + n) (drop n rows) ≡ whole → take (n + 1) next ++ each_row f (z + (n + 1)) (drop (n + 1) next) ≡ whole
each-set f z n rows next whole h e k =
    let one : n + 1 ≡ suc n = omega arith in
    ap₂ (λ (m : ℕ) (rs : List Row). take m rs ++ each_row f (z + m) (drop m rs)) one e ∙ each-more f z n rows whole h k

pub each-begin : (f : ℕ → Row → Row) (z : ℕ) (rows : List Row) → take 0 rows ++ each_row f (z + 0) (drop 0 rows) ≡ each_row f z rows
each-begin f z rows = let same : z + 0 ≡ z = omega arith in ap (λ k. each_row f k rows) same

pub each-end : (f : ℕ → Row → Row) (z n : ℕ) (rows whole : List Row) → length rows ≤ n → take n rows ++ each_row f (z + n) (drop n rows) ≡ whole → rows ≡ whole
unfolding each_row
each-end f z n rows whole h e =
    sym (append-nil rows) ∙ ap₂ (λ (ps qs : List Row). ps ++ qs) (sym (take_all n rows h)) (ap (λ rs. each_row f (z + n) rs) (sym (drop_all n rows h))) ∙ e

-- ---- counts

calls-most : (d : AreaRow) → calls_of d ≤ 4
calls-most (FileRow (HeaderRow key h)) = omega arith
calls-most (FileRow (SectionRow selected h)) = omega arith
calls-most (FileRow (LineRow key b ts)) = omega arith
calls-most (FileRow (MarkRow selected b t)) = omega arith
calls-most (FileRow (ContextRow key ts)) = omega arith
calls-most (FileRow (DotsRow t)) = omega arith
calls-most (FileRow BlankRow) = omega arith
calls-most (MessageRow k message) = omega arith
calls-most MarginRow = omega arith
calls-most WordsRow = omega arith

pub one-few : (c : Counts) (d : AreaRow) → AreFew 1 c (added c (drawn 1 (calls_of d)))
unfolding added
one-few c d = record {
  begun = raised_by-most 1 c.rows;
  calls = omega (arith, raised_by-most (calls_of d) c.calls, calls-most d);
}

pub few-none : (c : Counts) → AreFew 0 c c
few-none c = record { begun = omega arith; calls = omega arith }

pub none-few : (c : Counts) → AreFew 1 c c
none-few c = record { begun = omega arith; calls = omega arith }

pub few-more : (n m k : ℕ) (a b c : Counts) → n + m ≡ k → AreFew n a b → AreFew m b c → AreFew k a c
few-more n m k a b c e p q = record { begun = omega (arith, e, p.begun, q.begun); calls = omega (arith, e, p.calls, q.calls) }

-- ---- documents

files-long : (s : ViewState) (commit i : ℕ) (fs : List File) → length (file_views_of s commit i fs) ≡ length fs
unfolding file_views_of
files-long s commit i [] = refl
files-long s commit i (f ∷ fs) = ap suc (files-long s commit (suc i) fs)

-- a document has the files of its state
pub document-long : (s : ViewState) → length (inline_document s).files ≡ length s.state.files
document-long s = length-map (file_views_of s 0 0 s.state.files) shown_file ∙ files-long s 0 0 s.state.files

-- what lies over a document without files
pub words-over : (a : Area) (h s t : ℕ) (d : Document) (rows : List Row) → (length d.files == 0) ≡ true → t ≡ words_row h
    → each_row (only_on a t (Some WordsRow)) s rows ≡ each_row (λ (z : ℕ) (row : Row). with_shown a (row_over h s d z) row) s rows
words-over a h s t d rows e k =
    each-same _ _ s rows (λ z row. ap (λ n. with_shown a (if z == n then Some WordsRow else None) row) k
    ∙ ap (λ b. with_shown a (cond b (if z == words_row h then Some WordsRow else None) (if z == s + 1 then pinned_on d (s + 1) else None)) row) (sym e))

-- what lies over a document with files
pub header-over : (a : Area) (h s : ℕ) (d : Document) (o : Option AreaRow) (rows : List Row) → (length d.files == 0) ≡ false → o ≡ pinned_on d (s + 1)
    → each_row (only_on a (s + 1) o) s rows ≡ each_row (λ (z : ℕ) (row : Row). with_shown a (row_over h s d z) row) s rows
header-over a h s d o rows e k =
    each-same _ _ s rows (λ z row. ap (λ p. with_shown a (if z == s + 1 then p else None) row) k
    ∙ ap (λ b. with_shown a (cond b (if z == words_row h then Some WordsRow else None) (if z == s + 1 then pinned_on d (s + 1) else None)) row) (sym e))

-- rows, and what lies over them
pub both-painted : (a : Area) (s : ℕ) (d : Document) (rows under over : List Row)
    → under ≡ each_row (λ (z : ℕ) (row : Row). with_shown a (row_shown d z) row) s rows
    → over ≡ each_row (λ (z : ℕ) (row : Row). with_shown a (row_over (length under) s d z) row) s under
    → over ≡ painted_rows a s d rows
unfolding painted_rows
both-painted a s d rows under over p q =
    let long : length under ≡ length rows = ap (λ (rs : List Row). length rs) p ∙ each-long (λ (z : ℕ) (row : Row). with_shown a (row_shown d z) row) s rows in
    q
    ∙ ap (λ h. each_row (λ (z : ℕ) (row : Row). with_shown a (row_over h s d z) row) s under) long
    ∙ ap (λ rs. each_row (λ (z : ℕ) (row : Row). with_shown a (row_over (length rows) s d z) row) s rs) p
    ∙ each-twice (λ (z : ℕ) (row : Row). with_shown a (row_shown d z) row) (λ (z : ℕ) (row : Row). with_shown a (row_over (length rows) s d z) row) s rows

-- ---- windows

-- layers over others
shown-both : (ls ks : List (Layer ComponentId)) (z : ℕ) (row : Row) → shown_by (ls ++ ks) z row ≡ shown_by ks z (shown_by ls z row)
unfolding shown_by
shown-both [] ks z row = refl
shown-both (l ∷ ls) ks z row = shown-both ls ks z ((strip_at z l).shows row)

rows-each : (w z n : ℕ) (ls : List (Layer ComponentId)) → rows_from w ls z n ≡ each_row (shown_by ls) z (replicate n (blank_row w))
unfolding rows_from each_row
rows-each w z zero ls = refl
rows-each w z (suc n) ls = ap (λ (rows : List Row). shown_by ls z (blank_row w) ∷ rows) (rows-each w (suc z) n ls)

-- the window of a document is the document painted on a blank screen, and what lies over it
pub window-painted : (a : Area) (w h s : ℕ) (d : Document) (over : List (Layer ComponentId))
    → rows_from w (area_layers a h s d ++ over) s h ≡ each_row (shown_by over) s (painted_rows a s d (replicate h (blank_row w)))
unfolding painted_rows
window-painted a w h s d over =
    let blank = replicate h (blank_row w) in
    let high : length blank ≡ h = length-replicate h (blank_row w) in
    rows-each w s h (area_layers a h s d ++ over)
    ∙ each-same (shown_by (area_layers a h s d ++ over)) (λ (z : ℕ) (row : Row). shown_by over z (with_document a h s d z row)) s blank
    (λ z row. shown-both (area_layers a h s d) over z row ∙ ap (shown_by over z) (sym (rows-show-layers a h s z d row)))
    ∙ sym (each-twice (with_document a h s d) (shown_by over) s blank)
    ∙ ap (λ k. each_row (shown_by over) s (each_row (with_document a k s d) s blank)) (sym high)
