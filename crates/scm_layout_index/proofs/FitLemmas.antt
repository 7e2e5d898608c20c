-- What the searches ask of the rows of a session: they follow one another, and are near enough to be counted.
use Rattle.std.proofs.Common.{◌≡◌, ℕ, zero, suc, ◌+◌, ◌-◌, ◌≤◌, ◌^◌, Bool, false, List, [], ◌∷◌, length, Some, sym, subst, arith}
use Rattle.std.specs.Prelude.{sum_by, slice_get}
use Rattle.std.proofs.lemmas.List.Sums.{sum_by-cons}
use Rattle.scm_types.specs.declared.file.File.{File}
use Rattle.scm_types.specs.declared.keys.FileKey.{FileKey}
use Rattle.scm_types.specs.declared.keys.SelectionKey.{SelectionKey}
use Rattle.scm_types.specs.declared.section.Section.{Section}
use Rattle.scm_types.specs.declared.state.Commit.{Commit}
use Rattle.scm_types.specs.Limits.{file_size, max_items}
use Rattle.scm_types.proofs.LimitLemmas.{items_room}
use Rattle.scm_layout.specs.declared.file_rows.FileRows.{FileRows}
use Rattle.scm_layout.specs.declared.section_rows.SectionRows.{SectionRows}
use Rattle.scm_layout.specs.declared.state_rows.StateRows.{StateRows}
use Rattle.scm_layout.specs.Layouts.{files_top}
use Rattle.scm_layout.specs.Refolds.{total_height}
use Rattle.scm_layout.specs.Rows.{each_file_rows, file_height, file_key_of, file_rows, is_first_open, is_open, moved_to, sections_height, sections_rows, stacked, visible_height}
use Rattle.scm_layout.proofs.LayoutLemmas.{top-le}
use Rattle.scm_layout.proofs.RowLemmas.{sections-fit}
use Rattle.scm_layout.proofs.SearchLemmas.{files-follow, sections-follow}
use Rattle.scm_layout.proofs.StackLemmas.{each-fit}
use Rattle.scm_layout_index.specs.RowPieces.{RowsFit, SectionsFit}
use Rattle.scm_layout_index.specs.SharedRows.{AreRowsOfState}

-- ---- the rows of the sections of a file

module _ (set : List SelectionKey) (k : FileKey) (total : ℕ) where
  ends-within : (i top : ℕ) (before : Bool) (xs : List Section) (j : ℕ) (s : SectionRows) → slice_get (sections_rows set k total i top before xs) j ≡ Some s
      → s.end ≤ top + sections_height set k total i before xs
  unfolding sections_rows sections_height
  ends-within i top before [] j s e = absurd cc
  ends-within i top before (x ∷ xs) zero s e =
      let h = visible_height set k total i before x (is_first_open set k (suc i) xs) in
      let end : top + h ≡ s.end = cc in
      omega (arith, end)
  ends-within i top before (x ∷ xs) (suc j) s e =
      let h = visible_height set k total i before x (is_first_open set k (suc i) xs) in
      omega (arith, ends-within (suc i) (top + h) (is_open set k i x) xs j s e)

  tops-within : (i top : ℕ) (before : Bool) (xs : List Section) (j : ℕ) (s : SectionRows) → slice_get (sections_rows set k total i top before xs) j ≡ Some s → s.top ≤ s.end
  unfolding sections_rows
  tops-within i top before [] j s e = absurd cc
  tops-within i top before (x ∷ xs) zero s e =
      let h = visible_height set k total i before x (is_first_open set k (suc i) xs) in
      let end : top + h ≡ s.end = cc in
      let first : top ≡ s.top = cc in
      omega (arith, end, first)
  tops-within i top before (x ∷ xs) (suc j) s e =
      tops-within (suc i) (top + visible_height set k total i before x (is_first_open set k (suc i) xs)) (is_open set k i x) xs j s e

file-fits : (set : List SelectionKey) (k : FileKey) (top : ℕ) (g : File) → file_size g ≤ max_items → top ≤ 2 ^ 50 → SectionsFit (moved_to top (file_rows set k g))
file-fits set k top g size low = record {
  follow = sections-follow set k (length g.sections) g.sections;
  tops = λ j s at. tops-within set k (length g.sections) 0 0 false g.sections j s at;
  ends = λ j s at. omega (arith, ends-within set k (length g.sections) 0 0 false g.sections j s at, sections-fit set k (length g.sections) g.sections, size, items_room, low);
}

-- ---- those of the files

module _ (set : List SelectionKey) where
  fits-at : (i top : ℕ) (gs : List File) → sum_by file_size gs ≤ max_items → top + total_height (each_file_rows set 0 i gs) ≤ 2 ^ 50
      → (j : ℕ) (r : FileRows) → slice_get (stacked top (each_file_rows set 0 i gs)) j ≡ Some r → SectionsFit r
  unfolding stacked each_file_rows
  fits-at i top [] size low j r at = absurd cc
  fits-at i top (g ∷ gs) size low zero r at =
      let rows : moved_to top (file_rows set (file_key_of 0 i) g) ≡ r = cc in
      let first = sum_by-cons file_size g gs in
      subst (λ (q : FileRows). SectionsFit q) rows
      (file-fits set (file_key_of 0 i) top g (omega (arith, size, first)) (omega (arith, low)))
  fits-at i top (g ∷ gs) size low (suc j) r at =
      let first = sum_by-cons file_size g gs in
      let height : total_height (file_rows set (file_key_of 0 i) g ∷ each_file_rows set 0 (suc i) gs) ≡ (file_height set (file_key_of 0 i) g - 0) + total_height (each_file_rows set 0 (suc i) gs) =
      sum_by-cons (λ (x : FileRows). x.end - x.top) (file_rows set (file_key_of 0 i) g) (each_file_rows set 0 (suc i) gs) in
      fits-at (suc i) (top + (file_height set (file_key_of 0 i) g - 0)) gs (omega (arith, size, first)) (omega (arith, low, height)) j r at

pub rows-fit : (set : List SelectionKey) (commits : List Commit) (gs : List File) → length gs + sum_by file_size gs ≤ max_items
    → RowsFit (stacked (files_top commits) (each_file_rows set 0 0 gs))
rows-fit set commits gs size =
    let top = files_top commits in
    record {
      follow = files-follow top (each_file_rows set 0 0 gs);
      sections = fits-at set 0 top gs (omega (arith, size)) (omega (arith, each-fit set 0 gs size, top-le commits, items_room));
    }

-- rows of a session's layout
pub state-fit : (rows : StateRows) → AreRowsOfState rows → RowsFit rows.files
state-fit rows a =
    subst (λ (r : StateRows). RowsFit r.files) (sym a.is_it)
    (rows-fit a.expanded a.state.commits a.state.files a.size)
