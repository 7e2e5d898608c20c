-- On which rows and columns the boxes of sections and files lie, one below another.
use mathlib.Core.Bool.{or-false}
use Rattle.std.proofs.Common.{◌≡◌, ℕ, suc, ◌+◌, ◌<◌, ◌≤◌, Bool, true, false, List, [], ◌∷◌, ◌++◌, length, length-append, refl, sym, ap, arith, append-nil}
use Rattle.std.specs.Prelude.{ℤ, pos, ◌+ℤ◌, ◌||◌}
use Rattle.std.specs.Int.{int_min}
use Rattle.std.proofs.lemmas.Int.{ints}
use Rattle.scm_render.specs.Picture.{nothing, followed_by, part, box_rect}
use Rattle.scm_render.specs.Around.{no_rect}
use Rattle.scm_render.specs.Canvas.{Sight}
use Rattle.scm_render.proofs.SpanLemmas.{Spans, spans_more, join_none}
use Rattle.scm_types.specs.declared.keys.FileKey.{FileKey}
use Rattle.scm_widgets.specs.declared.ids.ComponentId.{ComponentId}
use Rattle.scm_document.specs.OpenSights.{IsOpen}
use Rattle.scm_document.specs.Owners.{AreSectionsOf}
use Rattle.scm_document.proofs.FilesOf.{HaveRows, IsFileOf}
use Rattle.scm_document.specs.Rows.{section_id, Heading, DocRow, HeaderRow, ShownSection, ShownFile, sections_rows, file_rows}
use Rattle.scm_document.specs.Pictures.{row_picture, rows_picture, sections_picture, shown_file_picture}
use Rattle.scm_document.specs.Strips.{is_wide}
use Rattle.scm_widgets.proofs.DrawsStrips.{box-followed, box-part}
use Rattle.scm_document.proofs.StripLemmas.{AreInner}
use Rattle.scm_document.proofs.BoxLemmas.{left_of, left-fits, both-left, spans-as, box-none, row-spans, rows-span}
use Rattle.scm_document.proofs.OwnerLemmas.{rows-inner}

pub section-span : (i : ComponentId) (ds : List DocRow) (s : Sight) (w : ℕ) (y : ℤ) → 10 ≤ w → IsOpen s w → 0 < length ds → AreInner ds
    → Spans (box_rect (part i (rows_picture ds s (pos 2) y))) y (length ds) (pos (left_of (is_wide ds))) w
section-span i [] s w y fits o some inner = absurd (omega (arith, some))
section-span i (d ∷ ds) s w y fits o some inner = rw (box-part i (rows_picture (d ∷ ds) s (pos 2) y)) (rows-span d ds s w y fits o inner)

-- whether a section takes columns 0 and 1
abbrev any_wide : List ShownSection → Bool
any_wide [] = false
any_wide (p ∷ ps) = is_wide p.rows || any_wide ps

length-both : (rs qs : List DocRow) → length rs + length qs ≡ length (rs ++ qs)
length-both rs qs = sym (length-append rs qs)

sections-span : (f : FileKey) (n : ℕ) (p : ShownSection) (ps : List ShownSection) (s : Sight) (w : ℕ) (y : ℤ) → 10 ≤ w → IsOpen s w → AreSectionsOf f n (p ∷ ps) → HaveRows (p ∷ ps)
    → Spans (box_rect (sections_picture (p ∷ ps) s (pos 2) y)) y (length (sections_rows (p ∷ ps))) (pos (left_of (any_wide (p ∷ ps)))) w
unfolding sections_picture sections_rows
sections-span f n p [] s w y fits o e some =
    let first = section-span (section_id p.key) p.rows s w y fits o some.0 (rows-inner p.key 0 p.rows e.2) in
    let empty : length p.rows ≡ length (p.rows ++ []) = ap length (sym (append-nil p.rows)) in
    rw (box-followed (part (section_id p.key) (rows_picture p.rows s (pos 2) y)) nothing, box-none, join_none (box_rect (part (section_id p.key) (rows_picture p.rows s (pos 2) y))) no_rect refl)
    (spans-as _ y (length p.rows) (length (p.rows ++ [])) (pos (left_of (is_wide p.rows))) (pos (left_of (is_wide p.rows || false))) w empty (ap (λ b. pos (left_of b)) (sym (or-false (is_wide p.rows)))) first)
sections-span f n p (q ∷ ps) s w y fits o e some =
    let first = section-span (section_id p.key) p.rows s w y fits o some.0 (rows-inner p.key 0 p.rows e.2) in
    let rest = sections-span f (suc p.key.section_idx) q ps s w (y +ℤ pos (length p.rows)) fits o e.3 some.1 in
    let any = some-rows q ps some.1 in
    rw (box-followed (part (section_id p.key) (rows_picture p.rows s (pos 2) y)) (sections_picture (q ∷ ps) s (pos 2) (y +ℤ pos (length p.rows))))
    (spans-as _ y (length p.rows + length (sections_rows (q ∷ ps))) _ _ _ w (length-both p.rows (sections_rows (q ∷ ps))) (both-left (is_wide p.rows) (any_wide (q ∷ ps)))
    (spans_more _ _ y (length p.rows) (length (sections_rows (q ∷ ps))) (pos (left_of (is_wide p.rows))) (pos (left_of (any_wide (q ∷ ps)))) w some.0 any
    (let k = left-fits (is_wide p.rows) w fits in omega (arith, ints, k)) (let k = left-fits (any_wide (q ∷ ps)) w fits in omega (arith, ints, k)) first rest))
  where
    some-rows : (q : ShownSection) (ps : List ShownSection) → HaveRows (q ∷ ps) → 0 < length (sections_rows (q ∷ ps))
    some-rows q ps some = let n = length-both q.rows (sections_rows ps) in omega (arith, some.0, n)

parts-span : (k : FileKey) (h : Heading) (ps : List ShownSection) (s : Sight) (w : ℕ) (y : ℤ) → 10 ≤ w → IsOpen s w → AreSectionsOf k 0 ps → HaveRows ps
    → Spans (box_rect (followed_by (row_picture (HeaderRow k h) s (pos 0) y) (sections_picture ps s (pos 2) (y +ℤ pos 1)))) y (suc (length (sections_rows ps))) (pos 0) w
unfolding sections_picture sections_rows
parts-span k h [] s w y fits o e some =
    rw (box-followed (row_picture (HeaderRow k h) s (pos 0) y) nothing, box-none, join_none (box_rect (row_picture (HeaderRow k h) s (pos 0) y)) no_rect refl) (row-spans (HeaderRow k h) s w y fits o)
parts-span k h (p ∷ ps) s w y fits o e some =
    let first = row-spans (HeaderRow k h) s w y fits o in
    let rest = sections-span k 0 p ps s w (y +ℤ pos 1) fits o e some in
    let any : 0 < length (sections_rows (p ∷ ps)) = let n = length-both p.rows (sections_rows ps) in omega (arith, some.0, n) in
    rw (box-followed (row_picture (HeaderRow k h) s (pos 0) y) (sections_picture (p ∷ ps) s (pos 2) (y +ℤ pos 1)))
    (spans-as _ y (1 + length (sections_rows (p ∷ ps))) (suc (length (sections_rows (p ∷ ps)))) (int_min (pos 0) (pos (left_of (any_wide (p ∷ ps))))) (pos 0) w (omega arith) (both-left true (any_wide (p ∷ ps)))
    (spans_more _ _ y 1 (length (sections_rows (p ∷ ps))) (pos 0) (pos (left_of (any_wide (p ∷ ps)))) w (omega arith) any
    (omega (arith, ints, fits)) (let k = left-fits (any_wide (p ∷ ps)) w fits in omega (arith, ints, k)) first rest))

-- a file's box lies on its rows, and has all columns
pub file-span : (commit n : ℕ) (f : ShownFile) (s : Sight) (w : ℕ) (y : ℤ) → 10 ≤ w → IsOpen s w → IsFileOf commit n f → Spans (box_rect (shown_file_picture f s (pos 0) y)) y (length (file_rows f)) (pos 0) w
unfolding shown_file_picture file_rows
file-span commit n f s w y fits o e = parts-span f.key f.heading f.sections s w y fits o e.sections e.rows
