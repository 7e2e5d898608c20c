-- Sections below one another.
use Rattle.std.proofs.Common.{◌≡◌, ℕ, ◌+◌, ◌<◌, ◌≤◌, Bool, true, false, ◌==◌, ℤ, pos, ◌+ℤ◌, List, [], ◌∷◌, ◌++◌, length, length-append, map, drop, take, get_or, refl, ap, ◌∙◌, sym, arith, add-one, drop-cons, suc}
use Rattle.std.specs.Prelude.{◌^◌, if◌then◌else◌}
use Rattle.std.proofs.lemmas.List.{drop_all, length-drop}
use Rattle.std.proofs.lemmas.Int.{ints}
use Rattle.scm_types.specs.declared.section.Section.{Section}
use Rattle.scm_types.specs.declared.section.Section.TheVariants.{Unchanged, Changed}
use Rattle.scm_cells.specs.Rect.{InRange}
use Rattle.scm_cells.proofs.RectLemmas.{places}
use Rattle.scm_render.specs.Picture.{PictureInRange, nothing, followed_by, part}
use Rattle.scm_render.specs.Canvas.{Sight}
use Rattle.scm_render.proofs.PictureLemmas.{PictureInRange-left, PictureInRange-right, PictureInRange-part}
use Rattle.scm_document.specs.declared.section_view.SectionView.{SectionView}
use Rattle.scm_rows.specs.Context.{are_all_shown, first_below, has_dots, is_first, lines_above, lines_height}
use Rattle.scm_rows.specs.Heights.{is_section_visible}
use Rattle.scm_rows.proofs.HeightLemmas.{above-le}
use Rattle.scm_document.specs.Rows.{DocRow, DotsRow, BlankRow, HeaderRow, ShownSection, ShownFile, file_rows, section_id, is_open, is_first_open, rows_below, shown_lines, context_rows, section_height, changed_row, changed_rows, numbered_row, numbered_rows, rows_of, section_rows, shown_of_view, shown_section, shown_sections, sections_rows, place_of}
use Rattle.scm_document.specs.SectionWalk.{visible_views}
use Rattle.scm_widgets.specs.Boxes.{is_fold_open}
use Rattle.scm_document.specs.Pictures.{row_picture, rows_picture, section_picture, sections_picture, shown_file_picture}
use Rattle.scm_document.proofs.HeadingLemmas.{heading-rect}
use Rattle.scm_document.proofs.RowsLemmas.{row-end, length-lines, length-taken}

-- ---- heights

pub one_or_none : (b : Bool) (r : DocRow) → length (if b then r ∷ [] else []) ≡ (if b then 1 else 0)
one_or_none true r = refl
one_or_none false r = refl

sum-of : (a b c d e f : ℕ) → a ≡ d → b ≡ e → c ≡ f → a + (b + c) ≡ d + (e + f)
sum-of a b c d e f p q r = rw (p, q, r) refl

lines-height : (v : SectionView) (ls : List (List ℕ)) → length (shown_lines v ls) ≡ lines_height (place_of v) (length ls)
lines-height v ls =
    let n = length ls in
    let f = first_below (place_of v) n in
    let below = numbered_rows v f (drop f ls) in
    let dots = if has_dots (place_of v) n then DotsRow _ ∷ [] else [] in
    length-append (numbered_rows v 0 (take (lines_above (place_of v) n) ls)) (rows_below v ls)
    ∙ ap (λ k. length (numbered_rows v 0 (take (lines_above (place_of v) n) ls)) + k) (length-append dots below)
    ∙ sum-of _ _ _ _ _ _ (length-taken v (lines_above (place_of v) n) ls (above-le (are_all_shown (place_of v) n) (is_first (place_of v)) n)) (one_or_none (has_dots (place_of v) n) _) (length-lines (numbered_row v) f (drop f ls) ∙ length-drop f ls)

pub height-of : (v : SectionView) (s : Section) → length (rows_of v s) ≡ section_height v s
unfolding context_rows
height-of v (Unchanged ls) = elim (length ls == 0) as (λ b. length (if b then BlankRow ∷ [] else shown_lines v ls) ≡ (if b then 1 else lines_height (place_of v) (length ls))) [ true ↦ refl | false ↦ lines-height v ls ]
height-of v (Changed ls) = elim (is_fold_open v.expand_box) as (λ b. suc (length (if b then changed_rows v 0 ls else [])) ≡ (if b then 1 + length ls else 1)) [ true ↦ omega (arith, length-lines (changed_row v) 0 ls) | false ↦ refl ]
height-of v _ = refl

pub section-size : (v : SectionView) → length (section_rows v) ≡ section_height v v.section.now
unfolding section_rows
section-size v = height-of v v.section.now

-- ---- pictures

-- the row below the last is in range
rows-in : (rs : List DocRow) (s : Sight) (x y : ℤ) → InRange y → PictureInRange (rows_picture rs s x y) → InRange (y +ℤ pos (length rs))
unfolding rows_picture
rows-in [] s x y f r = let same : y ≡ y +ℤ pos 0 = omega (arith, ints) in rw (sym same) f
rows-in (a ∷ rs) s x y f r =
    let more = rows-in rs s x (y +ℤ pos 1) (row-end a s x y (PictureInRange-left _ _ r)) (PictureInRange-right _ _ r) in
    let same : (y +ℤ pos 1) +ℤ pos (length rs) ≡ y +ℤ pos (suc (length rs)) = omega (arith, ints) in
    rw same at more

-- rows that are in range are few
rows-few : (rs : List DocRow) (s : Sight) (x y : ℤ) → PictureInRange (rows_picture rs s x y) → length rs < 2 ^ 63
unfolding rows_picture
rows-few [] s x y r = omega (arith, places)
rows-few (a ∷ rs) s x y r =
    let top = row-end a s x y (PictureInRange-left _ _ r) in
    omega (arith, places, top, rows-in rs s x (y +ℤ pos 1) top (PictureInRange-right _ _ r))

pub section-few : (v : SectionView) (s : Sight) (x y : ℤ) → PictureInRange (section_picture v s x y) → section_height v v.section.now < 2 ^ 63
unfolding section_picture
section-few v s x y r = rw (section-size v) at (rows-few (section_rows v) s x y r)

pub sections-in : (ps : List ShownSection) (s : Sight) (x y : ℤ) → InRange y → PictureInRange (sections_picture ps s x y) → InRange (y +ℤ pos (length (sections_rows ps)))
unfolding sections_picture sections_rows
sections-in [] s x y f r = let same : y ≡ y +ℤ pos 0 = omega (arith, ints) in rw (sym same) f
sections-in (p ∷ ps) s x y f r =
    let next = rows-in p.rows s x y f (PictureInRange-part _ _ (PictureInRange-left _ _ r)) in
    let more = sections-in ps s x (y +ℤ pos (length p.rows)) next (PictureInRange-right _ _ r) in
    let same : (y +ℤ pos (length p.rows)) +ℤ pos (length (sections_rows ps)) ≡ y +ℤ pos (length (p.rows ++ sections_rows ps)) = omega (arith, ints, length-append p.rows (sections_rows ps)) in
    rw same at more

-- the row below a section is in range
pub section-in : (v : SectionView) (s : Sight) (x y : ℤ) → InRange y → PictureInRange (section_picture v s x y) → InRange (y +ℤ pos (section_height v v.section.now))
unfolding section_picture
section-in v s x y f r = rw (section-size v) at (rows-in (section_rows v) s x y f r)

-- ---- the sections that have rows

pub shown-visible : (before : Bool) (vs : List SectionView) → shown_sections before vs ≡ map shown_of_view (visible_views before vs)
unfolding shown_sections
shown-visible before [] = refl
shown-visible before (v ∷ vs) = go (is_section_visible before v.section.now (is_first_open vs)) (shown-visible (is_open v) vs)
  where
    go : (b : Bool) → shown_sections (is_open v) vs ≡ map shown_of_view (visible_views (is_open v) vs)
        → shown_section b v ++ shown_sections (is_open v) vs ≡ map shown_of_view (if b then v ∷ visible_views (is_open v) vs else visible_views (is_open v) vs)
    go true h = ap (λ ps. shown_of_view v ∷ ps) h
    go false h = h

pub visible-more : (before : Bool) (vs : List SectionView) (i : ℕ) (d : SectionView) → i < length vs
    → visible_views before (drop i vs)
    ≡ (if is_section_visible before (get_or vs i d).section.now (is_first_open (drop (i + 1) vs)) then get_or vs i d ∷ visible_views (is_open (get_or vs i d)) (drop (i + 1) vs)
    else visible_views (is_open (get_or vs i d)) (drop (i + 1) vs))
visible-more before vs i d h = rw (add-one, drop-cons vs i d h) refl

pub visible-none : (before : Bool) (vs : List SectionView) (i : ℕ) → length vs ≤ i → visible_views before (drop i vs) ≡ []
visible-none before vs i h = ap (visible_views before) (drop_all i vs h)

-- the first of the sections that are left, and those below it
pub sections-more : (left : List SectionView) (v : SectionView) (vs : List SectionView) (s : Sight) (x y : ℤ) → left ≡ v ∷ vs
    → sections_picture (map shown_of_view left) s x y
    ≡ followed_by (part (section_id v.section_key) (section_picture v s x y)) (sections_picture (map shown_of_view vs) s x (y +ℤ pos (section_height v v.section.now)))
unfolding sections_picture section_picture
sections-more left v vs s x y e =
    ap (λ ws. sections_picture (map shown_of_view ws) s x y) e
    ∙ ap (λ n. followed_by (part (section_id v.section_key) (rows_picture (section_rows v) s x y)) (sections_picture (map shown_of_view vs) s x (y +ℤ pos n))) (section-size v)

pub sections-end : (left : List SectionView) (s : Sight) (x y : ℤ) → left ≡ [] → sections_picture (map shown_of_view left) s x y ≡ nothing
unfolding sections_picture
sections-end left s x y e = ap (λ ws. sections_picture (map shown_of_view ws) s x y) e

pub length-sections : (ps qs : List ShownSection) → length (sections_rows (ps ++ qs)) ≡ length (sections_rows ps) + length (sections_rows qs)
unfolding sections_rows
length-sections [] qs = omega arith
length-sections (p ∷ ps) qs =
    omega (arith, length-append p.rows (sections_rows (ps ++ qs)), length-sections ps qs, length-append p.rows (sections_rows ps))

-- the places of a file whose picture is in range
pub record FileFits (f : ShownFile) (x y : ℤ) : Type 0 where
  pub left : InRange x
  pub top : InRange y
  pub next : InRange (y +ℤ pos 1)
  pub end : InRange (y +ℤ pos (length (file_rows f)))

pub file-fits : (f : ShownFile) (s : Sight) (x y : ℤ) → PictureInRange (shown_file_picture f s x y) → FileFits f x y
unfolding shown_file_picture file_rows row_picture
file-fits f s x y r =
    let h = heading-rect f.heading s x y (PictureInRange-part _ _ (PictureInRange-left _ _ r)) in
    let more = sections-in f.sections s (x +ℤ pos 2) (y +ℤ pos 1) h.end_y (PictureInRange-right _ _ r) in
    let same : (y +ℤ pos 1) +ℤ pos (length (sections_rows f.sections)) ≡ y +ℤ pos (suc (length (sections_rows f.sections))) = omega (arith, ints) in
    record { left = h.x; top = h.y; next = h.end_y; end = rw same at more }

pub header-fits : (f : ShownFile) (s : Sight) (x y : ℤ) → PictureInRange (row_picture (HeaderRow f.key f.heading) s x y) → InRange x × InRange y × InRange (y +ℤ pos 1)
unfolding row_picture
header-fits f s x y r = let h = heading-rect f.heading s x y (PictureInRange-part _ _ r) in (h.x, h.y, h.end_y)
