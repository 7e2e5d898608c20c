-- The pieces of a document are its rows, and the places of its keys.
use Rattle.std.proofs.Common.{◌≡◌, ℕ, suc, ◌+◌, ◌-◌, ◌<◌, List, [], ◌∷◌, ◌++◌, length, map, get_or, refl, sym, ap, ap₂, ◌∙◌, arith, true, false, Bool}
use Rattle.std.specs.Prelude.{if◌then◌else◌}
use Rattle.std.specs.List.{flat_map}
use Rattle.std.proofs.lemmas.List.Concat.{flat_map-cons, flat_map-append}
use Rattle.scm_types.specs.declared.keys.SelectionKey.TheVariants as selection
use Rattle.scm_document.specs.declared.section_view.SectionView.{SectionView}
use Rattle.scm_document.specs.declared.file_view.FileView.{FileView}
use Rattle.scm_document.specs.declared.row_place.RowPlace.TheVariants as part
use Rattle.scm_document.specs.declared.index_pieces.SectionPiece.{SectionPiece}
use Rattle.scm_document.specs.declared.index_pieces.Piece.TheVariants as pieces
use Rattle.scm_document.specs.Rows.{DocRow, BlankRow, section_height, rows_of, section_rows, shown_of_view, shown_sections, shown_file, file_rows}
use Rattle.scm_widgets.specs.Boxes.{is_fold_open}
use Rattle.scm_document.specs.Places.{Place, line_places, rows_places, sections_places, files_places}
use Rattle.scm_document.specs.RowIndex.{section_parts, sections_parts, files_parts}
use Rattle.scm_document.specs.SectionWalk.{visible_views}
use Rattle.scm_rows.specs.Kinds.{line_of}
use Rattle.scm_document.specs.SectionPieces.{kind_on}
use Rattle.scm_document.specs.ViewPieces.{section_piece_of, section_piece_list, file_height, sections_in_file, file_piece_of}
use Rattle.scm_document.specs.Pieces.{file_pieces, files_pieces, line_list, lines_places, section_places, piece_places, piece_parts}
use Rattle.scm_document.proofs.KindLemmas.{IsRead, kind-at}
use Rattle.scm_document.proofs.SectionsLemmas.{height-of, section-size, shown-visible}
use Rattle.scm_document.proofs.ViewPieceLemmas.{file-height}

-- ---- the rows of a section

places-read : (v : SectionView) (row : ℕ) → IsRead v (line_places row) (λ kind. line_list v.section_key row (line_of kind))
places-read v row = record { line = λ i l. refl; mark = λ b t. refl; context = λ i l. refl; dots = λ t. refl; blank = refl }

rows-read : (s : SectionPiece) (j : ℕ) (rs : List DocRow) → ((i row : ℕ) → i < length rs → line_places row (get_or rs i BlankRow) ≡ line_list s.key row (line_of (kind_on s (j + i))))
    → rows_places (s.top + j) rs ≡ lines_places s.key s.top (kind_on s) j (length rs)
unfolding rows_places lines_places
rows-read s j [] h = refl
rows-read s j (r ∷ rs) h =
    let here : j + 0 ≡ j = omega arith in
    let next : suc (s.top + j) ≡ s.top + suc j = omega arith in
    ap₂ (λ a b. a ++ b) (h 0 (s.top + j) (omega arith) ∙ ap (λ i. line_list s.key (s.top + j) (line_of (kind_on s i))) here)
    (ap (λ t. rows_places t rs) next ∙ rows-read s (suc j) rs (λ i row below. let same : j + suc i ≡ suc j + i = omega arith in rw same at (h (suc i) row (omega (arith, below)))))

-- ---- the places of the keys

section-is : (v : SectionView) (top : ℕ) → section_places (section_piece_of v top) ≡ record { key = selection.Section v.section_key; top = top; rows = length (section_rows v) } ∷ rows_places top (section_rows v)
unfolding section_rows
section-is v top =
    let section = v.section.now in
    let s = section_piece_of v top in
    let first : top + 0 ≡ top = omega arith in
    let size : top + section_height v section - top ≡ length (rows_of v section) = omega (arith, height-of v section) in
    let read : rows_places (top + 0) (rows_of v section) ≡ lines_places s.key s.top (kind_on s) 0 (length (rows_of v section)) =
    rows-read s 0 (rows_of v section) (λ i row h. let same : 0 + i ≡ i = omega arith in
    rw same (kind-at v (line_places row) (λ kind. line_list v.section_key row (line_of kind)) (places-read v row) i section (λ e. refl) (omega (arith, h, height-of v section)))) in
    ap₂ (λ (r : ℕ) (ps : List Place). record { key = selection.Section v.section_key; top = top; rows = r } ∷ ps) size
    (ap (lines_places s.key s.top (kind_on s) 0) size ∙ sym read ∙ ap (λ t. rows_places t (rows_of v section)) first)

sections-places : (top : ℕ) (vs : List SectionView) → flat_map piece_places (map pieces.Section (section_piece_list top vs)) ≡ sections_places top (map shown_of_view vs)
unfolding sections_places
sections-places top [] = refl
sections-places top (v ∷ vs) =
    let next = top + section_height v v.section.now in
    let rest = map pieces.Section (section_piece_list next vs) in
    flat_map-cons piece_places (pieces.Section (section_piece_of v top)) rest
    ∙ ap (λ w. w ++ flat_map piece_places rest) (section-is v top)
    ∙ ap (λ w. (record { key = selection.Section v.section_key; top = top; rows = length (section_rows v) } ∷ rows_places top (section_rows v)) ++ w)
    (sections-places next vs ∙ ap (λ n. sections_places (top + n) (map shown_of_view vs)) (sym (section-size v)))

no-places : (t : ℕ) → [] ≡ sections_places t []
unfolding sections_places
no-places t = refl

file-places : (m top : ℕ) (v : FileView) → flat_map piece_places (file_pieces m top v) ≡ record { key = selection.File v.file_key; top = top; rows = length (file_rows (shown_file v)) } ∷ sections_places (suc top) (shown_file v).sections
unfolding shown_file
file-places m top v =
    flat_map-cons piece_places (pieces.File (file_piece_of m top v)) (map pieces.Section (sections_in_file top v))
    ∙ ap₂ (λ (r : ℕ) (ps : List Place). record { key = selection.File v.file_key; top = top; rows = r } ∷ ps) size (go (is_fold_open v.expand_box))
  where
    size : top + file_height v - top ≡ length (file_rows (shown_file v))
    size = omega (arith, file-height v)

    go : (b : Bool) → flat_map piece_places (map pieces.Section (if b then section_piece_list (top + 1) (visible_views false v.section_views) else [])) ≡ sections_places (suc top) (if b then shown_sections false v.section_views else [])
    go true =
        let one : top + 1 ≡ suc top = omega arith in
        sections-places (top + 1) (visible_views false v.section_views)
        ∙ ap₂ (λ t ps. sections_places t ps) one (sym (shown-visible false v.section_views))
    go false = no-places (suc top)

pub files-places : (m top : ℕ) (vs : List FileView) → flat_map piece_places (files_pieces m top vs) ≡ files_places top (map shown_file vs)
unfolding files_places shown_file
files-places m top [] = refl
files-places m top (v ∷ vs) =
    let next = top + file_height v in
    flat_map-append piece_places (file_pieces m top v) (files_pieces m next vs)
    ∙ ap (λ w. w ++ flat_map piece_places (files_pieces m next vs)) (file-places m top v)
    ∙ ap (λ w. (record { key = selection.File v.file_key; top = top; rows = length (file_rows (shown_file v)) } ∷ sections_places (suc top) (shown_file v).sections) ++ w)
    (files-places m next vs ∙ ap (λ n. files_places (top + n) (map shown_file vs)) (sym (file-height v)))

-- ---- what stands on the rows

section-parts : (v : SectionView) (top : ℕ) → piece_parts (pieces.Section (section_piece_of v top)) ≡ section_parts v.section_key 0 (length (section_rows v))
section-parts v top =
    let size : top + section_height v v.section.now - top ≡ length (section_rows v) = omega (arith, section-size v) in
    ap (section_parts v.section_key 0) size

sections-parts : (top : ℕ) (vs : List SectionView) → flat_map piece_parts (map pieces.Section (section_piece_list top vs)) ≡ sections_parts (map shown_of_view vs)
unfolding sections_parts
sections-parts top [] = refl
sections-parts top (v ∷ vs) =
    let next = top + section_height v v.section.now in
    flat_map-cons piece_parts (pieces.Section (section_piece_of v top)) (map pieces.Section (section_piece_list next vs))
    ∙ ap₂ (λ a b. a ++ b) (section-parts v top) (sections-parts next vs)

no-parts : [] ≡ sections_parts []
unfolding sections_parts
no-parts = refl

file-parts : (m top : ℕ) (v : FileView) → flat_map piece_parts (file_pieces m top v) ≡ part.File v.file_key ∷ sections_parts (shown_file v).sections
unfolding shown_file
file-parts m top v = flat_map-cons piece_parts (pieces.File (file_piece_of m top v)) (map pieces.Section (sections_in_file top v)) ∙ ap (λ w. part.File v.file_key ∷ w) (go (is_fold_open v.expand_box))
  where
    go : (b : Bool) → flat_map piece_parts (map pieces.Section (if b then section_piece_list (top + 1) (visible_views false v.section_views) else [])) ≡ sections_parts (if b then shown_sections false v.section_views else [])
    go true = sections-parts (top + 1) (visible_views false v.section_views) ∙ ap sections_parts (sym (shown-visible false v.section_views))
    go false = no-parts

pub files-parts : (m top : ℕ) (vs : List FileView) → flat_map piece_parts (files_pieces m top vs) ≡ files_parts (map shown_file vs)
unfolding files_parts shown_file
files-parts m top [] = refl
files-parts m top (v ∷ vs) =
    let next = top + file_height v in
    flat_map-append piece_parts (file_pieces m top v) (files_pieces m next vs) ∙ ap₂ (λ a b. a ++ b) (file-parts m top v) (files-parts m next vs)
