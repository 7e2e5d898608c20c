-- Toggles change no row: files that are the same without their marks have the same rows.
use Rattle.std.proofs.Common.{◌≡◌, ℕ, suc, ◌+◌, ◌&&◌, ◌||◌, Bool, false, not, List, [], ◌∷◌, ◌++◌, length, map, take, drop, refl, ap, sym, ◌∙◌}
use Rattle.std.specs.Prelude.{if◌then◌else◌, sum_by}
use Rattle.std.proofs.lemmas.List.{length-map}
use Rattle.scm_types.specs.declared.file.File.{File}
use Rattle.scm_types.specs.declared.keys.FileKey.{FileKey}
use Rattle.scm_types.specs.declared.keys.SelectionKey.{SelectionKey}
use Rattle.scm_types.specs.declared.keys.SelectionKey.TheVariants as keys
use Rattle.scm_types.specs.declared.section.Section.{Section}
use Rattle.scm_types.specs.declared.section.Section.TheVariants.{Unchanged, Changed}
use Rattle.scm_types.specs.declared.state.RecordState.{RecordState}
use Rattle.scm_types.specs.Keys.{has_key}
use Rattle.scm_types.specs.Limits.{file_size, state_size}
use Rattle.scm_types.specs.Marks.{is_editable_section, line_with_mark}
use Rattle.scm_rows.specs.Lines.{is_changed}
use Rattle.scm_layout.specs.declared.file_rows.FileRows.{FileRows}
use Rattle.scm_layout.specs.declared.state_counts.StateCounts.{StateCounts}
use Rattle.scm_layout.specs.declared.state_layout.Layout.{Layout}
use Rattle.scm_layout.specs.Counts.{counts_of}
use Rattle.scm_layout.specs.Layouts.{files_top, layout_of}
use Rattle.scm_rows.specs.Context.{place}
use Rattle.scm_rows.specs.Heights.{height_of, shape_of}
use Rattle.scm_layout.proofs.AgreeLemmas.{same-rows}
use Rattle.scm_layout.specs.Rows.{each_file_rows, file_height, file_key_of, file_rows, fold_count, folded_count, is_expanded, is_first_open, is_open, rows_at, sections_height, sections_rows, stacked, visible_height}
use Rattle.scm_layout.proofs.BareLemmas.{bare, bare_file, bare_section, editable-bare, sum-mapped}
use Rattle.scm_layout.proofs.CountLemmas.{file_size-bare}
use Rattle.scm_layout.proofs.FilesLemmas.{length-before}
use Rattle.scm_layout.proofs.FoldLemmas.{rows_with}
use Rattle.scm_selection.proofs.ToggleLemmas.{lent_whole}

height-bare : (total i : ℕ) (b : Bool) (s : Section) → height_of (place total i) b (bare_section s) ≡ height_of (place total i) b s
height-bare total i b (Changed lines) = ap (λ n. if b then 1 + n else 1) (length-map lines (line_with_mark (λ _. false)))
height-bare total i b _ = refl

shape-bare : (s : Section) → shape_of (bare_section s) ≡ shape_of s
shape-bare (Unchanged lines) = refl
shape-bare _ = refl

changed-bare : (s : Section) → is_changed (bare_section s) ≡ is_changed s
changed-bare (Unchanged lines) = refl
changed-bare _ = refl

module _ (ks : List SelectionKey) (k : FileKey) where
  first-bare : (i : ℕ) (ss : List Section) → is_first_open ks k i (bare ss) ≡ is_first_open ks k i ss
  first-bare i [] = refl
  first-bare i (s ∷ ss) = ap (λ b. b && is_expanded ks k i) (editable-bare s)

  visible-bare : (total i : ℕ) (before : Bool) (s : Section) (ss : List Section)
      → visible_height ks k total i before (bare_section s) (is_first_open ks k (suc i) (bare ss)) ≡ visible_height ks k total i before s (is_first_open ks k (suc i) ss)
  visible-bare total i before s ss =
      ap (λ b. if b || (before || is_first_open ks k (suc i) (bare ss)) then height_of (place total i) (is_expanded ks k i) (bare_section s) else 0) (editable-bare s)
      ∙ ap (λ b. if is_editable_section s || (before || b) then height_of (place total i) (is_expanded ks k i) (bare_section s) else 0) (first-bare (suc i) ss)
      ∙ ap (λ n. if is_editable_section s || (before || is_first_open ks k (suc i) ss) then n else 0) (height-bare total i (is_expanded ks k i) s)

  rows-bare : (total i top : ℕ) (before : Bool) (ss : List Section) → sections_rows ks k total i top before (bare ss) ≡ sections_rows ks k total i top before ss
  unfolding sections_rows
  rows-bare total i top before [] = refl
  rows-bare total i top before (s ∷ ss) =
      let h = visible_height ks k total i before s (is_first_open ks k (suc i) ss) in
      ap (λ n. rows_at top n (shape_of (bare_section s)) ∷ sections_rows ks k total (suc i) (top + n) (is_open ks k i (bare_section s)) (bare ss)) (visible-bare total i before s ss)
      ∙ ap (λ b. rows_at top h (shape_of (bare_section s)) ∷ sections_rows ks k total (suc i) (top + h) (b && is_expanded ks k i) (bare ss)) (editable-bare s)
      ∙ ap (λ shape. rows_at top h shape ∷ sections_rows ks k total (suc i) (top + h) (is_open ks k i s) (bare ss)) (shape-bare s)
      ∙ ap (λ rs. rows_at top h (shape_of s) ∷ rs) (rows-bare total (suc i) (top + h) (is_open ks k i s) ss)

  heights-bare : (total i : ℕ) (before : Bool) (ss : List Section) → sections_height ks k total i before (bare ss) ≡ sections_height ks k total i before ss
  heights-bare total i before ss = same-rows ks ks k total i 0 before before (bare ss) ss (rows-bare total i 0 before ss)

  folds-bare : (i : ℕ) (ss : List Section) → folded_count ks k i (bare ss) ≡ folded_count ks k i ss
  unfolding folded_count
  folds-bare i [] = refl
  folds-bare i (s ∷ ss) =
      ap (λ b. (if b && not (is_expanded ks k i) then 1 else 0) + folded_count ks k (suc i) (bare ss)) (changed-bare s)
      ∙ ap (λ n. fold_count ks k i s + n) (folds-bare (suc i) ss)

  file-bare : (f : File) → file_rows ks k (bare_file f) ≡ file_rows ks k f
  file-bare f =
      let ss = f.sections in
      let open_height : ℕ → ℕ = λ n. 1 + (if has_key ks (keys.File k) then n else 0) in
      ap (λ n. rows_with (open_height (sections_height ks k n 0 false (bare ss))) (folded_count ks k 0 (bare ss)) (sections_rows ks k n 0 0 false (bare ss))) (length-map ss bare_section)
      ∙ ap (λ n. rows_with (open_height n) (folded_count ks k 0 (bare ss)) (sections_rows ks k (length ss) 0 0 false (bare ss))) (heights-bare (length ss) 0 false ss)
      ∙ ap (λ n. rows_with (file_height ks k f) n (sections_rows ks k (length ss) 0 0 false (bare ss))) (folds-bare 0 ss)
      ∙ ap (λ rs. rows_with (file_height ks k f) (folded_count ks k 0 ss) rs) (rows-bare (length ss) 0 0 false ss)

each-bare : (ks : List SelectionKey) (commit i : ℕ) (fs : List File) → each_file_rows ks commit i (map bare_file fs) ≡ each_file_rows ks commit i fs
unfolding each_file_rows
each-bare ks commit i [] = refl
each-bare ks commit i (f ∷ fs) =
    ap (λ r. r ∷ each_file_rows ks commit (suc i) (map bare_file fs)) (file-bare ks (file_key_of commit i) f)
    ∙ ap (λ rs. file_rows ks (file_key_of commit i) f ∷ rs) (each-bare ks commit (suc i) fs)

-- a layout of these counts and rows of files
abbrev layout_with : StateCounts → List FileRows → Layout
layout_with counts rows = record { counts = counts; rows = record { files = rows } }

-- the layout after marks changed, where its counts are those of the new marks
layout-same : (state : RecordState) (files : List File) (expanded : List SelectionKey) (old : Layout) → map bare_file state.files ≡ map bare_file files → old ≡ layout_of state expanded
    → record old { counts = counts_of files } ≡ layout_of (record state { files = files }) expanded
layout-same state files expanded old e is =
    ap (λ (l : Layout). record l { counts = counts_of files }) is
    ∙ ap (λ rs. layout_with (counts_of files) (stacked (files_top state.commits) rs)) (sym (each-bare expanded 0 0 state.files) ∙ ap (λ fs. each_file_rows expanded 0 0 fs) e ∙ each-bare expanded 0 0 files)

-- ---- sizes

-- how many files, sections and lines there are
abbrev size_of : List File → ℕ
size_of files = length files + sum_by file_size files

sizes-bare : (fs : List File) → size_of (map bare_file fs) ≡ size_of fs
sizes-bare fs =
    ap (λ n. n + sum_by file_size (map bare_file fs)) (length-map fs bare_file)
    ∙ ap (λ n. length fs + n) (sum-mapped file_size bare_file file_size-bare fs)

-- a state has the same size after marks changed
pub size-same : (state : RecordState) (files : List File) → map bare_file state.files ≡ map bare_file files → state_size (record state { files = files }) ≡ state_size state
size-same state files e = sym (sizes-bare files) ∙ ap (λ fs. size_of fs) (sym e) ∙ sizes-bare state.files

-- ---- files that were lent, and came back as `new`

module _ (state : RecordState) (files new : List File) (same : map bare_file state.files ≡ map bare_file files) (is : new ≡ files) where
  abbrev lent : RecordState
  lent = record state { files = take (length state.files) (new ++ drop (length new) state.files) }

  whole : take (length state.files) (new ++ drop (length new) state.files) ≡ new
  whole = lent_whole state.files new (ap (λ fs. length fs) is ∙ sym (length-before state.files files same))

  pub lent-layout : (expanded : List SelectionKey) (old : Layout) (counts : StateCounts) → counts ≡ counts_of new → old ≡ layout_of state expanded → record old { counts = counts } ≡ layout_of lent expanded
  lent-layout expanded old counts counted was = rw (whole, counted, is) (layout-same state files expanded old same was)

  pub lent-size : state_size lent ≡ state_size state
  lent-size = rw (whole, is) (size-same state files same)
