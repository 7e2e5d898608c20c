-- The picture of files makes of each row that the mask lets through what the file's row shows in its area, and over it the pinned header.
use Rattle.std.proofs.Common.{◌≡◌, ℕ, ◌+◌, ◌≤◌, Bool, true, false, cond, List, [], ◌∷◌, ◌++◌, length, map, refl, sym, ap, ◌∙◌, arith, Option, Some, None}
use Rattle.std.specs.Prelude.{ℤ, pos, ◌+ℤ◌, ◌<ℤ◌, nat_lt, if◌then◌else◌}
use Rattle.std.specs.Ordering.{int_eq}
use Rattle.std.proofs.lemmas.Bool.Decides.{Decides-int_eq}
use Rattle.std.proofs.lemmas.Int.{ints}
use Rattle.std.proofs.lemmas.List.{length-map, map-append}
use Rattle.scm_render.specs.Canvas.{Row, Sight, under, paint}
use Rattle.scm_render.specs.Drawing.{reach, has_row}
use Rattle.scm_render.specs.Lines.{line}
use Rattle.scm_render.specs.Picture.{nothing, followed_by, part}
use Rattle.scm_render.proofs.LineLemmas.{line-append, line-below}
use Rattle.scm_render.proofs.PaintLemmas.{paint-append, paint-none}
use Rattle.scm_render.proofs.RowLemmas.{one_row_paints}
use Rattle.scm_widgets.specs.Pictures.{to_end}
use Rattle.scm_document.specs.FilesRows.{files_rows}
use Rattle.scm_document.specs.Pictures.{file_mask, files_picture, is_pinned, mask_row, one_file_picture, pinned_header, pinned_mask, pinned_picture, shown_file_picture}
use Rattle.scm_document.specs.Rows.{HeaderRow, ShownFile, file_rows}
use Rattle.scm_document.specs.Strips.{is_over}
use Rattle.scm_document.proofs.DocumentLemmas.{AreInnerFiles, over-below, same-test}
use Rattle.scm_document.proofs.StripLemmas.{AreInnerSections, reach-on_screen}
use Rattle.scm_screen.specs.DocumentRows.{file_over}
use Rattle.scm_strips.specs.declared.area.Area.{Area}
use Rattle.scm_strips.specs.Shows.{shows_row}
use Rattle.scm_beside_laws.proofs.RowPaintLemmas.{file-paints, header-paints}
use Rattle.scm_beside_laws.proofs.SeenLemmas.{IsSeen, file-reached, one_row-reached, under-seen}

-- ---- rows one below another, each made anew

-- row z after the rows from row y on were made anew, each by its function
abbrev pub made_by : List (Row → Row) → ℤ → ℤ → Row → Row
made_by fs y z row = line (λ r. r) fs y z row

pub made-none : (y z : ℤ) (row : Row) → made_by [] y z row ≡ row
unfolding line
made-none y z row = refl

pub made-both : (fs gs : List (Row → Row)) (y z : ℤ) (row : Row) → made_by gs (y +ℤ pos (length fs)) z (made_by fs y z row) ≡ made_by (fs ++ gs) y z row
made-both fs gs y z row = ap (λ (f : Row → Row). f row) (line-append (λ r. r) (λ f g r. g (f r)) (λ m. refl) (λ m. refl) fs gs y z)

-- above them nothing is made
made-above : (fs : List (Row → Row)) (y z : ℤ) (row : Row) → z <ℤ y → made_by fs y z row ≡ row
made-above fs y z row h = ap (λ (f : Row → Row). f row) (line-below (λ r. r) fs y z h)

-- one function on row m, and others below that row, one after the other
made-apart : (f : Row → Row) (fs : List (Row → Row)) (m y z : ℤ) (row : Row) → m <ℤ y → made_by fs y z (made_by (f ∷ []) m z row) ≡ made_by (f ∷ []) m z (made_by fs y z row)
unfolding line
made-apart f fs m y z row h = go (int_eq z m) refl
  where
    go : (b : Bool) → int_eq z m ≡ b → line (λ r. r) fs y z ((cond b f (λ r. r)) row) ≡ (cond b f (λ r. r)) (line (λ r. r) fs y z row)
    go true e =
        let same : z ≡ m = (Decides-int_eq z m).0 e in
        let above : z <ℤ y = omega (arith, ints, same, h) in
        made-above fs y z (f row) above ∙ ap f (sym (made-above fs y z row above))
    go false e = refl

-- ---- pinned headers

-- the header of a file, if there is one
abbrev pub header_rows : Area → Option ShownFile → List (Row → Row)
header_rows a None = []
header_rows a (Some f) = shows_row a (HeaderRow f.key f.heading) ∷ []

-- file f, if this is true
abbrev file_if : Bool → ShownFile → Option ShownFile
file_if b f = cond b (Some f) None

-- no file from row m on is over row m
none-over : (m top : ℕ) (fs : List ShownFile) → m ≤ top → file_over m top fs ≡ None
unfolding file_over
none-over m top [] h = refl
none-over m top (f ∷ fs) h =
    let no : nat_lt top m ≡ false = grind (arith, h) in
    rw no (none-over m (top + length (file_rows f)) fs (omega (arith, h)))

pinned-made : (f : ShownFile) (s : Sight) (w : ℕ) (a : Area) (m : ℕ) (b : Bool) → 10 ≤ a.width → IsSeen s w a → mask_row s ≡ pos m → (z : ℤ) (row : Row) → has_row (reach s) z ≡ true
    → paint s.rect (if b then pinned_header f s (pos a.left) (mask_row s) else nothing).puts z row ≡ made_by (header_rows a (file_if b f)) (pos m) z row
unfolding nothing line
pinned-made f s w a m true fits o e z row h =
    rw e (one_row_paints s.rect (reach s) (pos m) _ _
    (header-paints f (reach s) (under (pinned_mask s (pos a.left) (pos m)) s) w a (pos m) fits (under-seen s w a (pos m) (Some 1) o) (reach-on_screen s)
    (λ k. one_row-reached (pos a.left) (pos m) (to_end s (pos a.left)) s (reach-on_screen s (pos m) k))) z row h)
pinned-made f s w a m false fits o e z row h = paint-none s.rect z row

-- ---- files

one_file-paints : (f : ShownFile) (s : Sight) (w : ℕ) (a : Area) (m top : ℕ) (b : Bool) → is_over m top f ≡ b → 10 ≤ a.width → IsSeen s w a → mask_row s ≡ pos m → AreInnerSections f.sections
    → (z : ℤ) (row : Row) → has_row (reach s) z ≡ true
    → paint s.rect (one_file_picture f s (pos a.left) (pos top)).puts z row ≡ made_by (header_rows a (file_if b f)) (pos m) z (made_by (map (shows_row a) (file_rows f)) (pos top) z row)
unfolding one_file_picture pinned_picture followed_by part
one_file-paints f s w a m top b q fits o e inner z row h =
    let l = pos a.left in
    let t = under (file_mask s l (pos top)) s in
    let test : is_pinned (mask_row s) (pos top) (length (file_rows f)) ≡ b = ap (λ k. is_pinned k (pos top) (length (file_rows f))) e ∙ same-test m top (length (file_rows f)) ∙ q in
    let whole = file-paints f (reach s) t w a (pos top) fits (under-seen s w a (pos top) None o) (reach-on_screen s) (file-reached s l (pos top)) inner z row h in
    rw test
    (paint-append s.rect (shown_file_picture f t l (pos top)).puts (if b then pinned_header f s l (mask_row s) else nothing).puts z row
    ∙ ap (λ r. paint s.rect (if b then pinned_header f s l (mask_row s) else nothing).puts z r) whole
    ∙ pinned-made f s w a m b fits o e z (made_by (map (shows_row a) (file_rows f)) (pos top) z row) h)

-- a file's rows, its pinned header and the files below, in the order in which they are drawn, and with the header over all rows
in-turn : (a : Area) (b : Bool) (f : ShownFile) (o : Option ShownFile) (own rest : List (Row → Row)) (m y k z : ℤ) (row : Row) → (b ≡ true → o ≡ None) → (b ≡ true → m <ℤ k) → y +ℤ pos (length own) ≡ k
    → made_by (header_rows a o) m z (made_by rest k z (made_by (header_rows a (file_if b f)) m z (made_by own y z row))) ≡ made_by (header_rows a (cond b (Some f) o)) m z (made_by (own ++ rest) y z row)
in-turn a true f o own rest m y k z row none below e =
    let joined : made_by rest k z (made_by own y z row) ≡ made_by (own ++ rest) y z row = rw (sym e) (made-both own rest y z row) in
    let header = shows_row a (HeaderRow f.key f.heading) in
    rw (none refl) (made-none m z _ ∙ made-apart header rest m k z (made_by own y z row) (below refl) ∙ ap (λ r. made_by (header ∷ []) m z r) joined)
in-turn a false f o own rest m y k z row none below e =
    let joined : made_by rest k z (made_by own y z row) ≡ made_by (own ++ rest) y z row = rw (sym e) (made-both own rest y z row) in
    ap (λ r. made_by (header_rows a o) m z (made_by rest k z r)) (made-none m z (made_by own y z row)) ∙ ap (λ r. made_by (header_rows a o) m z r) joined

pub files-paint : (fs : List ShownFile) (s : Sight) (w : ℕ) (a : Area) (m top : ℕ) → 10 ≤ a.width → IsSeen s w a → mask_row s ≡ pos m → AreInnerFiles fs
    → (z : ℤ) (row : Row) → has_row (reach s) z ≡ true
    → paint s.rect (files_picture fs s (pos a.left) (pos top)).puts z row ≡ made_by (header_rows a (file_over m top fs)) (pos m) z (made_by (map (shows_row a) (files_rows fs)) (pos top) z row)
unfolding files_picture files_rows file_over followed_by nothing
files-paint [] s w a m top fits o e inner z row h = paint-none s.rect z row ∙ sym (made-none (pos m) z (made_by [] (pos top) z row) ∙ made-none (pos top) z row)
files-paint (f ∷ fs) s w a m top fits o e inner z row h =
    let b = is_over m top f in
    let l = pos a.left in
    let n = length (file_rows f) in
    let own = map (shows_row a) (file_rows f) in
    let rest = map (shows_row a) (files_rows fs) in
    let drawn = made_by (header_rows a (file_if b f)) (pos m) z (made_by own (pos top) z row) in
    rw (map-append (shows_row a) (file_rows f) (files_rows fs))
    (paint-append s.rect (one_file_picture f s l (pos top)).puts (files_picture fs s l (pos top +ℤ pos n)).puts z row
    ∙ ap (λ r. paint s.rect (files_picture fs s l (pos top +ℤ pos n)).puts z r) (one_file-paints f s w a m top b refl fits o e inner.0 z row h)
    ∙ files-paint fs s w a m (top + n) fits o e inner.1 z drawn h
    ∙ in-turn a b f (file_over m (top + n) fs) own rest (pos m) (pos top) (pos (top + n)) z row
    (λ q. none-over m (top + n) fs (let past = over-below m top f q in omega (arith, past))) (λ q. let past = over-below m top f q in omega (arith, ints, past))
    (ap (λ k. pos top +ℤ pos k) (length-map (file_rows f) (shows_row a))))
