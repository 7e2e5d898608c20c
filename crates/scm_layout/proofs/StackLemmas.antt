-- Files one below the other: the loops that find their rows, and how many rows they have at most.
use Rattle.std.proofs.Common.{◌≡◌, ℕ, suc, ◌+◌, ◌-◌, ◌*◌, ◌<◌, ◌≤◌, List, [], ◌∷◌, length, map, drop, get_or, refl, ap, sym, ◌∙◌, arith}
use Rattle.std.specs.Prelude.{sum_by}
use Rattle.std.proofs.lemmas.List.{drop_all, length-map}
use Rattle.std.proofs.lemmas.List.Sums.{get_or-le-sum_by, sum_by-cons}
use Rattle.scm_types.specs.declared.file.File.{File}
use Rattle.scm_types.specs.declared.keys.SelectionKey.{SelectionKey}
use Rattle.scm_types.specs.Limits.{file_size, max_items}
use Rattle.scm_layout.specs.declared.file_rows.FileRows.{FileRows}
use Rattle.scm_layout.specs.Rows.{each_file_rows, file_height, file_key_of, file_rows, moved_to, stacked}
use Rattle.scm_layout.specs.Refolds.{AreRowsOfFiles, total_height}
use Rattle.scm_layout.proofs.ZipLemmas.{cut, cut-at}
use Rattle.scm_layout.proofs.RowLemmas.{file-fit, length-sections_rows}

next-index : (i : ℕ) → i + 1 ≡ suc i
next-index i = omega arith

-- ---- files moved one below the other

pub stacked-more : (top i : ℕ) (rs : List FileRows) (d : FileRows) → i < length rs
    → stacked top (drop i rs) ≡ moved_to top (get_or rs i d) ∷ stacked (top + ((get_or rs i d).end - (get_or rs i d).top)) (drop (i + 1) rs)
unfolding stacked
stacked-more top i rs d h = rw (cut rs i d h) refl

pub stacked-end : (top i : ℕ) (rs : List FileRows) → length rs ≤ i → stacked top (drop i rs) ≡ []
unfolding stacked
stacked-end top i rs h = rw (drop_all i rs h) refl

pub total-more : (i : ℕ) (rs : List FileRows) (d : FileRows) → i < length rs → total_height (drop i rs) ≡ ((get_or rs i d).end - (get_or rs i d).top) + total_height (drop (i + 1) rs)
total-more i rs d h =
    ap (λ xs. total_height xs) (cut rs i d h) ∙ sum_by-cons (λ (x : FileRows). x.end - x.top) (get_or rs i d) (drop (i + 1) rs)

pub length-stacked : (top : ℕ) (rs : List FileRows) → length (stacked top rs) ≡ length rs
unfolding stacked
length-stacked top [] = refl
length-stacked top (r ∷ rs) = ap suc (length-stacked (top + (r.end - r.top)) rs)

-- ---- the rows of each file

module _ (ks : List SelectionKey) (commit : ℕ) where
  pub each-more : (i : ℕ) (fs : List File) (f : File) → i < length fs → f ≡ get_or fs i f
      → each_file_rows ks commit i (drop i fs) ≡ file_rows ks (file_key_of commit i) f ∷ each_file_rows ks commit (i + 1) (drop (i + 1) fs)
  unfolding each_file_rows
  each-more i fs f h at = rw (cut-at fs i f h at, next-index i) refl

  pub each-end : (i : ℕ) (fs : List File) → length fs ≤ i → each_file_rows ks commit i (drop i fs) ≡ []
  unfolding each_file_rows
  each-end i fs h = rw (drop_all i fs h) refl

  each-le : (i : ℕ) (fs : List File) → total_height (each_file_rows ks commit i fs) ≤ length fs + 2 * sum_by file_size fs
  unfolding each_file_rows
  each-le i [] = omega arith
  each-le i (f ∷ fs) =
      let first : total_height (file_rows ks (file_key_of commit i) f ∷ each_file_rows ks commit (suc i) fs) ≡ (file_height ks (file_key_of commit i) f - 0) + total_height (each_file_rows ks commit (suc i) fs) =
      sum_by-cons (λ (x : FileRows). x.end - x.top) (file_rows ks (file_key_of commit i) f) (each_file_rows ks commit (suc i) fs) in
      omega (arith, file-fit ks (file_key_of commit i) f, each-le (suc i) fs, sum_by-cons file_size f fs)

  pub each-fit : (fs : List File) → length fs + sum_by file_size fs ≤ max_items → total_height (each_file_rows ks commit 0 fs) ≤ 2 * max_items
  each-fit fs h = omega (arith, each-le 0 fs)

  -- how many sections each file has
  each-lengths : (i : ℕ) (fs : List File) → map (λ (r : FileRows). length r.sections) (each_file_rows ks commit i fs) ≡ map (λ (f : File). length f.sections) fs
  unfolding each_file_rows
  each-lengths i [] = refl
  each-lengths i (f ∷ fs) =
      ap (λ n. n ∷ map (λ (r : FileRows). length r.sections) (each_file_rows ks commit (suc i) fs)) (length-sections_rows ks (file_key_of commit i) (length f.sections) 0 0 _ f.sections)
      ∙ ap (λ ns. length f.sections ∷ ns) (each-lengths (suc i) fs)

stacked-lengths : (top : ℕ) (rs : List FileRows) → map (λ (r : FileRows). length r.sections) (stacked top rs) ≡ map (λ (r : FileRows). length r.sections) rs
unfolding stacked
stacked-lengths top [] = refl
stacked-lengths top (r ∷ rs) = ap (λ ns. length r.sections ∷ ns) (stacked-lengths (top + (r.end - r.top)) rs)

-- what the rows of a session's files are ready for
pub rows-of-files : (ks : List SelectionKey) (commit top : ℕ) (fs : List File) → length fs + sum_by file_size fs ≤ max_items → AreRowsOfFiles (stacked top (each_file_rows ks commit 0 fs)) fs
rows-of-files ks commit top fs h = record { lengths = stacked-lengths top (each_file_rows ks commit 0 fs) ∙ each-lengths ks commit 0 fs; fits = h }

pub lengths-more : (i : ℕ) (rs : List FileRows) (fs : List File) (r : FileRows) (f : File) → i < length rs → i < length fs → r ≡ get_or rs i r → f ≡ get_or fs i f
    → map (λ (x : FileRows). length x.sections) (drop i rs) ≡ map (λ (x : File). length x.sections) (drop i fs)
    → (length r.sections ≡ length f.sections) × (map (λ (x : FileRows). length x.sections) (drop (i + 1) rs) ≡ map (λ (x : File). length x.sections) (drop (i + 1) fs))
lengths-more i rs fs r f h k at by e =
    let both : map (λ (x : FileRows). length x.sections) (r ∷ drop (i + 1) rs) ≡ map (λ (x : File). length x.sections) (f ∷ drop (i + 1) fs) =
    ap (λ xs. map (λ (x : FileRows). length x.sections) xs) (sym (cut-at rs i r h at)) ∙ e ∙ ap (λ xs. map (λ (x : File). length x.sections) xs) (cut-at fs i f k by) in
    (cc, cc)

-- there are as many rows as files
pub files-length : (rs : List FileRows) (fs : List File) → map (λ (x : FileRows). length x.sections) rs ≡ map (λ (x : File). length x.sections) fs → length rs ≡ length fs
files-length rs fs e = sym (length-map rs (λ (x : FileRows). length x.sections)) ∙ ap (λ ns. length ns) e ∙ length-map fs (λ (x : File). length x.sections)

-- a file has no more sections and lines than all
pub file-within : (i : ℕ) (fs : List File) (f : File) → i < length fs → f ≡ get_or fs i f → length fs + sum_by file_size fs ≤ max_items → file_size f ≤ max_items
file-within i fs f h at fits =
    let size : file_size f ≡ file_size (get_or fs i f) = ap (λ g. file_size g) at in
    omega (arith, get_or-le-sum_by file_size fs i f h)
