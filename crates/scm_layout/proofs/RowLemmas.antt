-- The rows of sections and files: how many there are at most, and the loops that find them.
use Rattle.std.proofs.Common.{◌≡◌, ℕ, suc, ◌+◌, ◌*◌, ◌<◌, ◌≤◌, ◌^◌, Bool, true, false, ◌||◌, List, [], ◌∷◌, ◌++◌, length, take, drop, get_or, set, refl, sym, ap, ap₂, ◌∙◌, append_assoc, arith, Some}
use Rattle.std.specs.Prelude.{not, ◌&&◌, slice_get, sum_by, if◌then◌else◌}
use Rattle.std.proofs.lemmas.List.{drop_all, take_more_set}
use Rattle.std.proofs.lemmas.List.Sums.{sum_by-cons}
use Rattle.scm_types.specs.declared.file.File.{File}
use Rattle.scm_types.specs.declared.keys.FileKey.{FileKey}
use Rattle.scm_types.specs.declared.keys.SelectionKey.{SelectionKey}
use Rattle.scm_types.specs.declared.keys.SelectionKey.TheVariants as keys
use Rattle.scm_types.specs.declared.section.Section.{Section}
use Rattle.scm_types.specs.declared.section.Section.TheVariants.{Unchanged, Changed, FileMode, Binary}
use Rattle.scm_types.specs.Keys.{has_key}
use Rattle.scm_types.specs.Limits.{file_size, max_items, section_size}
use Rattle.scm_types.specs.Marks.{is_editable_section}
use Rattle.scm_layout.proofs.ZipLemmas.{cut-at}
use Rattle.scm_rows.proofs.HeightLemmas.{height-le}
use Rattle.scm_rows.specs.declared.section_place.SectionPlace.{SectionPlace}
use Rattle.scm_rows.specs.Context.{place}
use Rattle.scm_rows.specs.Heights.{height_of, shape_of, shown_height}
use Rattle.scm_layout.specs.Rows.{file_height, fold_count, folded_count, is_expanded, is_first_open, is_open, rows_at, sections_height, sections_rows, visible_height}

-- ---- how many rows there are at most

-- some rows more than a state has are kept in four bytes
pub rows_room : 4 * max_items < 2 ^ 32
unfolding max_items
rows_room = omega arith

none-le : (b : Bool) (n m : ℕ) → m ≤ n → (if b then m else 0) ≤ n
none-le true n m h = h
none-le false n m h = omega arith

visible-le : (ks : List SelectionKey) (k : FileKey) (total i : ℕ) (before : Bool) (s : Section) (after : Bool) → visible_height ks k total i before s after ≤ 1 + 2 * section_size s
visible-le ks k total i before s after =
    none-le (is_editable_section s || (before || after)) (1 + 2 * section_size s) (height_of (place total i) (is_expanded ks k i) s) (height-le (place total i) (is_expanded ks k i) s)

sections-le : (ks : List SelectionKey) (k : FileKey) (total i : ℕ) (before : Bool) (ss : List Section) → sections_height ks k total i before ss ≤ length ss + 2 * sum_by section_size ss
unfolding sections_height
sections-le ks k total i before [] = omega arith
sections-le ks k total i before (s ∷ ss) =
    omega (arith, visible-le ks k total i before s (is_first_open ks k (suc i) ss), sections-le ks k total (suc i) (is_open ks k i s) ss, sum_by-cons section_size s ss)

pub sections-fit : (ks : List SelectionKey) (k : FileKey) (total : ℕ) (ss : List Section) → sections_height ks k total 0 false ss ≤ 2 * (length ss + sum_by section_size ss)
sections-fit ks k total ss = omega (arith, sections-le ks k total 0 false ss)

pub file-fit : (ks : List SelectionKey) (k : FileKey) (f : File) → file_height ks k f ≤ 1 + 2 * file_size f
file-fit ks k f = omega (arith, none-le (has_key ks (keys.File k)) (2 * file_size f) (sections_height ks k (length f.sections) 0 false f.sections) (sections-fit ks k (length f.sections) f.sections))

-- ---- the loop over the sections of a file

next-index : (i : ℕ) → i + 1 ≡ suc i
next-index i = omega arith

module _ (ks : List SelectionKey) (k : FileKey) (total : ℕ) where
  -- the rows of section i and those of the sections below it
  pub sections_rows-more : (i top : ℕ) (before : Bool) (ss : List Section) (s : Section) → i < length ss → s ≡ get_or ss i s
      → sections_rows ks k total i top before (drop i ss)
      ≡ rows_at top (visible_height ks k total i before s (is_first_open ks k (i + 1) (drop (i + 1) ss))) (shape_of s)
      ∷ sections_rows ks k total (i + 1) (top + visible_height ks k total i before s (is_first_open ks k (i + 1) (drop (i + 1) ss))) (is_open ks k i s) (drop (i + 1) ss)
  unfolding sections_rows
  sections_rows-more i top before ss s h at =
      let more : drop i ss ≡ s ∷ drop (i + 1) ss = cut-at ss i s h at in
      rw (more, next-index i) refl

  pub sections_height-more : (i : ℕ) (before : Bool) (ss : List Section) (s : Section) → i < length ss → s ≡ get_or ss i s
      → sections_height ks k total i before (drop i ss)
      ≡ visible_height ks k total i before s (is_first_open ks k (i + 1) (drop (i + 1) ss)) + sections_height ks k total (i + 1) (is_open ks k i s) (drop (i + 1) ss)
  unfolding sections_height
  sections_height-more i before ss s h at =
      let more : drop i ss ≡ s ∷ drop (i + 1) ss = cut-at ss i s h at in
      rw (more, next-index i) refl

  pub sections_rows-end : (i top : ℕ) (before : Bool) (ss : List Section) → length ss ≤ i → sections_rows ks k total i top before (drop i ss) ≡ []
  unfolding sections_rows
  sections_rows-end i top before ss h = rw (drop_all i ss h) refl

  pub sections_height-end : (i : ℕ) (before : Bool) (ss : List Section) → length ss ≤ i → sections_height ks k total i before (drop i ss) ≡ 0
  unfolding sections_height
  sections_height-end i before ss h = rw (drop_all i ss h) refl

-- one that is written goes from what is left to what is made
pub written : {A : Type 0} (xs : List A) (i : ℕ) (y : A) (left whole : List A) → i < length xs → take i xs ++ (y ∷ left) ≡ whole → take (i + 1) (set xs i y) ++ left ≡ whole
written xs i y left whole h e =
    ap (λ zs. zs ++ left) (take_more_set xs i y h) ∙ append_assoc (take i xs) (y ∷ []) left ∙ e

pub folded_count-more : (ks : List SelectionKey) (k : FileKey) (i : ℕ) (ss : List Section) (s : Section) → i < length ss → s ≡ get_or ss i s
    → folded_count ks k i (drop i ss) ≡ fold_count ks k i s + folded_count ks k (i + 1) (drop (i + 1) ss)
unfolding folded_count
folded_count-more ks k i ss s h at =
    let more : drop i ss ≡ s ∷ drop (i + 1) ss = cut-at ss i s h at in
    rw (more, next-index i) refl

pub folded_count-end : (ks : List SelectionKey) (k : FileKey) (i : ℕ) (ss : List Section) → length ss ≤ i → folded_count ks k i (drop i ss) ≡ 0
unfolding folded_count
folded_count-end ks k i ss h = rw (drop_all i ss h) refl

pub length-sections_rows : (ks : List SelectionKey) (k : FileKey) (total i top : ℕ) (before : Bool) (ss : List Section) → length (sections_rows ks k total i top before ss) ≡ length ss
unfolding sections_rows
length-sections_rows ks k total i top before [] = refl
length-sections_rows ks k total i top before (s ∷ ss) =
    ap suc (length-sections_rows ks k total (suc i) (top + visible_height ks k total i before s (is_first_open ks k (suc i) ss)) (is_open ks k i s) ss)

-- ---- whether a section is open, in place of whether it is unfolded

-- where all sections that are not context are unfolded, a section is open if it is not context
pub open-all : (editable unfolded : Bool) → (editable ≡ true → unfolded ≡ true) → editable ≡ (editable && unfolded)
open-all true unfolded h = sym (h refl)
open-all false unfolded h = refl

-- then no section is folded
pub none-folded : (ks : List SelectionKey) (k : FileKey) (i : ℕ) (ss : List Section)
    → ((m : ℕ) (s : Section) → slice_get ss m ≡ Some s → is_editable_section s ≡ true → is_expanded ks k (i + m) ≡ true) → folded_count ks k i ss ≡ 0
unfolding folded_count
none-folded ks k i [] h = refl
none-folded ks k i (s ∷ ss) h =
    ap₂ (λ (m n : ℕ). m + n) (one s (λ editable. ap (is_expanded ks k) (sym (no-more i)) ∙ h 0 s refl editable))
    (none-folded ks k (suc i) ss (λ m x at editable. ap (is_expanded ks k) (one-more i m) ∙ h (suc m) x at editable))
  where
    one : (x : Section) → (is_editable_section x ≡ true → is_expanded ks k i ≡ true) → fold_count ks k i x ≡ 0
    one (Unchanged lines) e = refl
    one (Changed lines) e = ap (λ b. if not b then 1 else 0) (e refl)
    one (FileMode is_checked mode) e = refl
    one (Binary is_checked old new) e = refl

    no-more : (n : ℕ) → n + 0 ≡ n
    no-more n = omega arith

    one-more : (n m : ℕ) → suc n + m ≡ n + suc m
    one-more n m = omega arith

-- only a section that is not context has other rows if it is unfolded
pub open-height : (p : SectionPlace) (b before : Bool) (s : Section) (after : Bool) → shown_height p (is_editable_section s && b) before s after ≡ shown_height p b before s after
open-height p b before (Unchanged lines) after = refl
open-height p b before (Changed lines) after = refl
open-height p b before (FileMode is_checked mode) after = refl
open-height p b before (Binary is_checked old new) after = refl
