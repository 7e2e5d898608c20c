-- The rows of a session's files and sections are those of its views.
use Rattle.std.proofs.Common.{◌≡◌, ℕ, suc, ◌+◌, ◌-◌, Bool, true, false, not, ◌&&◌, List, [], ◌∷◌, map, refl, ap, sym, subst, ◌∙◌, arith}
use Rattle.std.specs.Prelude.{nat_eq, if◌then◌else◌}
use Rattle.std.proofs.lemmas.Bool.Decides.{nat_tests}
use Rattle.scm_types.specs.declared.file.File.{File}
use Rattle.scm_types.specs.declared.keys.FileKey.{FileKey}
use Rattle.scm_types.specs.declared.keys.SelectionKey.TheVariants as keys
use Rattle.scm_types.specs.declared.section.Section.{Section}
use Rattle.scm_types.specs.declared.tristate.Tristate.TheVariants as tristate
use Rattle.scm_types.specs.Keys.{has_key, section_key_of}
use Rattle.scm_widgets.specs.Boxes.{is_fold_open}
use Rattle.scm_document.specs.declared.section_view.SectionView.{SectionView}
use Rattle.scm_document.specs.Rows as views
use Rattle.scm_document.specs.SectionWalk.{visible_views}
use Rattle.scm_document.specs.ViewPieces as pieces
use Rattle.scm_rows.specs.Lines.{is_changed, old_lines}
use Rattle.scm_view.specs.ViewState.{Totals, ViewState, are_all_expanded, expand_box_of, file_view_of, file_views_of, section_fold, section_view_of, section_views_of, totals_of}
use Rattle.scm_layout.specs.Counts.{editable_after, file_counts, sections_counts}
use Rattle.scm_rows.specs.Context.{place}
use Rattle.scm_rows.specs.Heights.{is_section_open, is_section_visible, shape_of, shown_height}
use Rattle.scm_layout.specs.Rows.{each_file_rows, file_height, file_key_of, folded_count, is_expanded, is_first_open, is_open, rows_at, sections_height, sections_rows, stacked, visible_height}
use Rattle.scm_view_state.specs.ViewCounts.{HaveCountsOf, HaveSectionCountsOf}
use Rattle.scm_view_state.specs.ViewRows.{HaveRowsOf, RowsAreOfViews, section_views_rows, view_height}

-- ---- folds

-- whether the view of a section is unfolded
pub section-box : (s : ViewState) (k : FileKey) (i : ℕ) → is_fold_open (expand_box_of s (keys.Section (section_key_of k i)) (section_fold s (section_key_of k i))) ≡ is_expanded s.expanded k i
section-box s k i = elim (is_expanded s.expanded k i) as (λ b. is_fold_open (expand_box_of s (keys.Section (section_key_of k i)) (if b then tristate.True else tristate.False)) ≡ b) [ true ↦ refl | false ↦ refl ]

-- whether the view of a file is unfolded
pub file-box : (s : ViewState) (k : FileKey) (f : File) → is_fold_open (file_view_of s k f).expand_box ≡ has_key s.expanded (keys.File k)
file-box s k f = go (has_key s.expanded (keys.File k)) (are_all_expanded s k 0 f.sections)
  where
    go : (b c : Bool) → is_fold_open (expand_box_of s (keys.File k) (if b then (if c then tristate.True else tristate.Partial) else tristate.False)) ≡ b
    go true true = refl
    go true false = refl
    go false c = refl

-- ---- sections

seen : (b : Bool) (v : SectionView) (vs : List SectionView) → pieces.sections_height (if b then v ∷ vs else vs) ≡ (if b then views.section_height v v.section.now else 0) + pieces.sections_height vs
seen true v vs = refl
seen false v vs = omega arith

module _ (s : ViewState) (t : Totals) (k : FileKey) where
  -- the view of section i
  abbrev view : ℕ → ℕ → ℕ → Section → SectionView
  view i editable line x = section_view_of s t (section_key_of k i) editable line x

  pub open-is : (i editable line : ℕ) (x : Section) → views.is_open (view i editable line x) ≡ is_open s.expanded k i x
  open-is i editable line x = ap (λ b. is_section_open b x) (section-box s k i)

  pub first-is : (i editable line : ℕ) (xs : List Section) → views.is_first_open (section_views_of s t k i editable line xs) ≡ is_first_open s.expanded k i xs
  unfolding section_views_of
  first-is i editable line [] = refl
  first-is i editable line (x ∷ xs) = open-is i editable line x

  -- the rows of section i above the sections xs
  pub visible-is : (i editable line : ℕ) (before before' : Bool) (x : Section) (xs : List Section) (editable' line' : ℕ) → before ≡ before'
      → view_height before (view i editable line x) (views.is_first_open (section_views_of s t k (suc i) editable' line' xs))
      ≡ visible_height s.expanded k t.sections i before' x (is_first_open s.expanded k (suc i) xs)
  visible-is i editable line before before' x xs editable' line' e =
      ap (λ b. view_height before (view i editable line x) b) (first-is (suc i) editable' line' xs)
      ∙ ap (λ b. view_height b (view i editable line x) (is_first_open s.expanded k (suc i) xs)) e
      ∙ ap (λ b. shown_height (place t.sections i) b before' x (is_first_open s.expanded k (suc i) xs)) (section-box s k i)

  rows-are : (i editable line top : ℕ) (before before' : Bool) (xs : List Section) → before ≡ before'
      → section_views_rows top before (section_views_of s t k i editable line xs) ≡ sections_rows s.expanded k t.sections i top before' xs
  unfolding section_views_rows section_views_of sections_rows
  rows-are i editable line top before before' [] e = refl
  rows-are i editable line top before before' (x ∷ xs) e =
      let editable' = editable_after editable x in
      let line' = line + old_lines x in
      let vs = section_views_of s t k (suc i) editable' line' xs in
      let h' = visible_height s.expanded k t.sections i before' x (is_first_open s.expanded k (suc i) xs) in
      ap (λ n. rows_at top n (shape_of x) ∷ section_views_rows (top + n) (views.is_open (view i editable line x)) vs) (visible-is i editable line before before' x xs editable' line' e)
      ∙ ap (λ rs. rows_at top h' (shape_of x) ∷ rs) (rows-are (suc i) editable' line' (top + h') (views.is_open (view i editable line x)) (is_open s.expanded k i x) xs (open-is i editable line x))

  heights-are : (i editable line : ℕ) (before before' : Bool) (xs : List Section) → before ≡ before'
      → pieces.sections_height (visible_views before (section_views_of s t k i editable line xs)) ≡ sections_height s.expanded k t.sections i before' xs
  unfolding section_views_of sections_height
  heights-are i editable line before before' [] e = refl
  heights-are i editable line before before' (x ∷ xs) e =
      let editable' = editable_after editable x in
      let line' = line + old_lines x in
      let vs = section_views_of s t k (suc i) editable' line' xs in
      let h' = visible_height s.expanded k t.sections i before' x (is_first_open s.expanded k (suc i) xs) in
      seen (is_section_visible before x (views.is_first_open vs)) (view i editable line x) (visible_views (views.is_open (view i editable line x)) vs)
      ∙ ap (λ n. n + pieces.sections_height (visible_views (views.is_open (view i editable line x)) vs)) (visible-is i editable line before before' x xs editable' line' e)
      ∙ ap (λ n. h' + n) (heights-are (suc i) editable' line' (views.is_open (view i editable line x)) (is_open s.expanded k i x) xs (open-is i editable line x))

-- ---- files

pub file-height : (s : ViewState) (k : FileKey) (f : File) → file_height s.expanded k f ≡ pieces.file_height (file_view_of s k f)
file-height s k f =
    let t = totals_of f.sections in
    ap (λ n. 1 + (if has_key s.expanded (keys.File k) then n else 0)) (sym (heights-are s t k 0 0 0 false false f.sections refl))
    ∙ ap (λ b. 1 + (if b then pieces.sections_height (visible_views false (section_views_of s t k 0 0 0 f.sections)) else 0)) (sym (file-box s k f))

less-none : (n : ℕ) → n - 0 ≡ n
less-none n = omega arith

files-are : (s : ViewState) (commit i top : ℕ) (fs : List File) → HaveRowsOf top (stacked top (each_file_rows s.expanded commit i fs)) (file_views_of s commit i fs)
unfolding stacked each_file_rows file_views_of
files-are s commit i top [] = tt
files-are s commit i top (f ∷ fs) =
    let k = file_key_of commit i in
    let height : file_height s.expanded k f - 0 ≡ pieces.file_height (file_view_of s k f) = less-none (file_height s.expanded k f) ∙ file-height s k f in (
      refl,
      ap (λ n. top + n) height,
      sym (rows-are s (totals_of f.sections) k 0 0 0 0 false false f.sections refl),
      subst (λ (n : ℕ). HaveRowsOf (top + pieces.file_height (file_view_of s k f)) (stacked (top + n) (each_file_rows s.expanded commit (suc i) fs)) (file_views_of s commit (suc i) fs))
          (sym height) (files-are s commit (suc i) (top + pieces.file_height (file_view_of s k f)) fs),
    )

pub rows-of-views : RowsAreOfViews
rows-of-views s commit top = files-are s commit 0 top s.state.files

-- ---- counts

section-counts : (s : ViewState) (t : Totals) (k : FileKey) (i editable line : ℕ) (xs : List Section) → HaveSectionCountsOf t.editable (sections_counts editable line xs) (section_views_of s t k i editable line xs)
unfolding sections_counts section_views_of
section-counts s t k i editable line [] = tt
section-counts s t k i editable line (x ∷ xs) = (
  refl,
  refl,
  refl,
  refl,
  section-counts s t k (suc i) (editable_after editable x) (line + old_lines x) xs,
)

pub file-counts : (s : ViewState) (commit i : ℕ) (fs : List File) → HaveCountsOf (map file_counts fs) (file_views_of s commit i fs)
unfolding file_views_of
file-counts s commit i [] = tt
file-counts s commit i (f ∷ fs) = (
  refl,
  section-counts s (totals_of f.sections) (file_key_of commit i) 0 0 0 f.sections,
  file-counts s commit (suc i) fs,
)

-- ---- folded sections

count-step : (changed_lines unfolded more : Bool) (n : ℕ) → more ≡ nat_eq n 0 → ((if changed_lines then unfolded else true) && more) ≡ nat_eq ((if changed_lines && not unfolded then 1 else 0) + n) 0
count-step true true more n e = grind (arith, nat_tests)
count-step true false more n e = grind (arith, nat_tests)
count-step false unfolded more n e = grind (arith, nat_tests)

pub folds-counted : (s : ViewState) (k : FileKey) (i : ℕ) (xs : List Section) → are_all_expanded s k i xs ≡ nat_eq (folded_count s.expanded k i xs) 0
unfolding are_all_expanded folded_count
folds-counted s k i [] = refl
folds-counted s k i (x ∷ xs) =
    count-step (is_changed x) (is_expanded s.expanded k i) (are_all_expanded s k (suc i) xs) (folded_count s.expanded k (suc i) xs) (folds-counted s k (suc i) xs)
