-- The views of a view state, section by section and file by file.
use Rattle.std.proofs.Common.{◌≡◌, ℕ, zero, suc, ◌+◌, ◌<◌, ◌≤◌, Bool, true, false, ◌&&◌, List, [], ◌∷◌, ◌++◌, length, drop, take, get_or, refl, ap, sym, ◌∙◌, add-one, drop-cons, arith}
use Rattle.std.specs.List.{list_all}
use Rattle.std.specs.Prelude.{map, None, slice_get, unwrap_or, if◌then◌else◌}
use Rattle.std.proofs.lemmas.List.{drop_all}
use Rattle.scm_types.specs.declared.file.File.{File}
use Rattle.scm_types.specs.declared.section.Section.{Section}
use Rattle.scm_types.specs.declared.state.Commit.{Commit}
use Rattle.scm_types.specs.Marks.{is_editable_section}
use Rattle.scm_types.specs.declared.keys.FileKey.{FileKey}
use Rattle.scm_types.specs.declared.keys.SelectionKey.TheVariants as keys
use Rattle.scm_types.specs.declared.keys.SectionKey.{SectionKey}
use Rattle.scm_types.specs.declared.tristate.Tristate.TheVariants as tristate
use Rattle.scm_types.specs.Keys.{section_key_of, has_key}
use Rattle.scm_document.specs.declared.section_view.SectionView.{SectionView}
use Rattle.scm_view_state.specs.Views.{lent_sections}
use Rattle.scm_view_state.specs.Folds.{has_no_fold, is_full}
use Rattle.scm_rows.specs.Heights.{message_height}
use Rattle.scm_rows.specs.Lines.{is_changed, old_lines}
use Rattle.scm_layout.specs.Layouts.{files_top}
use Rattle.scm_view.specs.ViewState.{ViewState, Totals, are_all_expanded, commit_at, file_view_of, file_views_of, section_view_of, section_views_of}

-- ---- lists

-- adding the next one to the end of the results takes it from the rest
pub pushed : {A B : Type 0} (f : A → B) (made : List A) (next : A) (left : List B) → map f (made ++ next ∷ []) ++ left ≡ map f made ++ (f next ∷ left)
pushed f [] next left = refl
pushed f (x ∷ xs) next left = ap (λ ys. f x ∷ ys) (pushed f xs next left)

-- one element more, of those from index a on
pub more-taken : {A : Type 0} (a i : ℕ) (d : A) (xs : List A) → a ≤ i → i < length xs → drop a (take (suc i) xs) ≡ drop a (take i xs) ++ get_or xs i d ∷ []
more-taken a i d [] low within = absurd (omega (arith, within))
more-taken zero zero d (x ∷ xs) low within = refl
more-taken zero (suc i) d (x ∷ xs) low within = ap (λ ys. x ∷ ys) (more-taken zero i d xs (omega arith) (omega (arith, within)))
more-taken (suc a) zero d (x ∷ xs) low within = absurd (omega (arith, low))
more-taken (suc a) (suc i) d (x ∷ xs) low within = more-taken a i d xs (omega (arith, low)) (omega (arith, within))

-- ---- folds

section-fold : (s : ViewState) (t : Totals) (k : SectionKey) (editable line : ℕ) (section : Section)
    → has_no_fold (section_view_of s t k editable line section) ≡ (if is_changed section then has_key s.expanded (keys.Section k) else true)
section-fold s t k editable line section = go (is_changed section) (has_key s.expanded (keys.Section k))
  where
    go : (b c : Bool) → (if b then is_full (if c then tristate.True else tristate.False) else true) ≡ (if b then c else true)
    go true true = refl
    go true false = refl
    go false c = refl

-- no view of a file's sections shows a fold just where all of changed lines are expanded
folds-of : (s : ViewState) (t : Totals) (k : FileKey) (i editable line : ℕ) (sections : List Section)
    → list_all has_no_fold (section_views_of s t k i editable line sections) ≡ are_all_expanded s k i sections
unfolding section_views_of are_all_expanded
folds-of s t k i editable line [] = refl
folds-of s t k i editable line (section ∷ more) =
    rw (section-fold s t (section_key_of k i) editable line section, folds-of s t k (suc i) (if is_editable_section section then editable + 1 else editable) (line + old_lines section) more) refl

folds-lent : (vs : List SectionView) → list_all has_no_fold (lent_sections vs) ≡ list_all has_no_fold vs
folds-lent [] = refl
folds-lent (v ∷ vs) = ap (λ b. has_no_fold v && b) (folds-lent vs)

pub folds-are : (s : ViewState) (t : Totals) (k : FileKey) (sections : List Section) (vs : List SectionView) → lent_sections vs ≡ section_views_of s t k 0 0 0 sections
    → list_all has_no_fold vs ≡ are_all_expanded s k 0 sections
folds-are s t k sections vs e = sym (folds-lent vs) ∙ ap (list_all has_no_fold) e ∙ folds-of s t k 0 0 0 sections

-- ---- files

pub file_views-more : (s : ViewState) (commit i : ℕ) (files : List File) (d : File) → i < length files
    → file_views_of s commit i (drop i files) ≡ file_view_of s (record { commit_idx = commit; file_idx = i }) (get_or files i d) ∷ file_views_of s commit (i + 1) (drop (i + 1) files)
unfolding file_views_of
file_views-more s commit i files d h =
    let more : drop i files ≡ get_or files i d ∷ drop (i + 1) files = rw add-one (drop-cons files i d h) in
    let next : i + 1 ≡ suc i = omega arith in
    rw (more, next) refl

pub file_views-end : (s : ViewState) (commit i : ℕ) (files : List File) → length files ≤ i → file_views_of s commit i (drop i files) ≡ []
unfolding file_views_of
file_views-end s commit i files h = rw (drop_all i files h) refl

-- ---- commits

pub commit_at-get : (i : ℕ) (commits : List Commit) → commit_at i commits ≡ unwrap_or (slice_get commits i) (record { message = None })
unfolding commit_at
commit_at-get i [] = refl
commit_at-get zero (c ∷ cs) = refl
commit_at-get (suc i) (c ∷ cs) = commit_at-get i cs

-- ---- lengths and rows

pub sections-length : (s : ViewState) (t : Totals) (k : FileKey) (i editable line : ℕ) (xs : List Section) → length (section_views_of s t k i editable line xs) ≡ length xs
unfolding section_views_of
sections-length s t k i editable line [] = refl
sections-length s t k i editable line (x ∷ xs) = ap suc (sections-length s t k (suc i) (if is_editable_section x then editable + 1 else editable) (line + old_lines x) xs)

-- files begin below the message, or below the menu bar if there is none
pub top-message : (cs : List Commit) → files_top cs ≡ 1 + message_height (commit_at 0 cs).message
unfolding commit_at
top-message [] = refl
top-message (c ∷ cs) = refl
