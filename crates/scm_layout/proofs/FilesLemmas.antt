-- The counts of the files of a state, after marks of one or of all changed.
use Rattle.std.proofs.Common.{◌≡◌, ℕ, zero, suc, ◌<◌, ◌≤◌, Bool, not, List, [], ◌∷◌, length, map, get_or, set, slice_get, Some, None, refl, ap, sym, ◌∙◌, arith}
use Rattle.std.specs.Prelude.{sum_by, option_and_then}
use Rattle.std.proofs.lemmas.List.{length-map}
use Rattle.std.proofs.lemmas.List.Sums.{sum_by-cons}
use Rattle.scm_types.specs.declared.file.File.{File}
use Rattle.scm_types.specs.Edits.{modify}
use Rattle.scm_types.specs.Limits.{file_size, max_items}
use Rattle.scm_types.proofs.EditLemmas.{length-modify, modify-past}
use Rattle.scm_selection.specs.Toggle.{line_mark, with_line_toggled}
use Rattle.scm_layout.specs.declared.file_counts.FileCounts.{FileCounts}
use Rattle.scm_layout.specs.Counts.{file_counts}
use Rattle.scm_layout.specs.Recounts.{AreCountsButLine, AreCountsButMarks, files_counts}
use Rattle.scm_layout.proofs.BareLemmas.{bare_file}
use Rattle.scm_layout.proofs.CountLemmas.{head-same, none-same, tail-same}
use Rattle.scm_layout.proofs.ZipLemmas.{set-modify}

-- a file of a state has no more sections and lines than all
first-fits : (f : File) (fs : List File) → sum_by file_size (f ∷ fs) ≤ max_items → file_size f ≤ max_items
first-fits f fs h = omega (arith, sum_by-cons file_size f fs)

others-fit : (f : File) (fs : List File) → sum_by file_size (f ∷ fs) ≤ max_items → sum_by file_size fs ≤ max_items
others-fit f fs h = omega (arith, sum_by-cons file_size f fs)

-- ---- all files

-- the counts of file i, where the files differ in marks alone
pub counts-at : (before files : List File) (i : ℕ) (d c : FileCounts) (g : File) → i < length files
    → map bare_file before ≡ map bare_file files → c ≡ get_or (files_counts before) i d → g ≡ get_or files i g → sum_by file_size before ≤ max_items
    → AreCountsButMarks c g
counts-at before [] i d c g h same at here fits = absurd (omega arith)
counts-at [] (f ∷ fs) i d c g h same at here fits = none-same bare_file f fs same
counts-at (b ∷ bs) (f ∷ fs) zero d c g h same at here fits = record {
  before = b;
  counts = at;
  same = head-same bare_file b f bs fs same ∙ ap bare_file (sym here);
  fits = first-fits b bs fits;
}
counts-at (b ∷ bs) (f ∷ fs) (suc i) d c g h same at here fits =
    counts-at bs fs i d c g (omega arith) (tail-same bare_file b f bs fs same) at here (others-fit b bs fits)

pub length-before : (before files : List File) → map bare_file before ≡ map bare_file files → length before ≡ length files
length-before before files same = sym (length-map before bare_file) ∙ ap (λ fs. length fs) same ∙ length-map files bare_file

-- ---- one file

-- the counts of file i, where its marks changed
pub changed-at : (before : List File) (change : File → File) (i : ℕ) (d c : FileCounts) (g : File) → i < length before
    → ((file : File) → bare_file (change file) ≡ bare_file file) → c ≡ get_or (files_counts before) i d → g ≡ get_or (modify change before i) i g → sum_by file_size before ≤ max_items
    → AreCountsButMarks c g
changed-at [] change i d c g h same at here fits = absurd (omega arith)
changed-at (b ∷ bs) change zero d c g h same at here fits = record {
  before = b;
  counts = at;
  same = sym (same b) ∙ ap bare_file (sym here);
  fits = first-fits b bs fits;
}
changed-at (b ∷ bs) change (suc i) d c g h same at here fits = changed-at bs change i d c g (omega arith) same at here (others-fit b bs fits)

-- the same where one of its lines was toggled
pub toggled-at : (before : List File) (i section line : ℕ) (checked : Bool) (d c : FileCounts) (g : File) → i < length before
    → option_and_then (λ (f : File). option_and_then (line_mark line) (slice_get f.sections section)) (slice_get before i) ≡ Some (not checked)
    → c ≡ get_or (files_counts before) i d → g ≡ get_or (modify (with_line_toggled section line) before i) i g → sum_by file_size before ≤ max_items
    → AreCountsButLine c g section checked
toggled-at [] i section line checked d c g h mark at here fits = absurd (omega arith)
toggled-at (b ∷ bs) zero section line checked d c g h mark at here fits = record {
  before = b;
  line = line;
  counts = at;
  mark = mark;
  after = here;
  fits = first-fits b bs fits;
}
toggled-at (b ∷ bs) (suc i) section line checked d c g h mark at here fits = toggled-at bs i section line checked d c g (omega arith) mark at here (others-fit b bs fits)

-- without such a line nothing is toggled
pub missing-line : (files : List File) (i section line : ℕ)
    → option_and_then (λ (f : File). option_and_then (line_mark line) (slice_get f.sections section)) (slice_get files i) ≡ None
    → modify (with_line_toggled section line) files i ≡ files
missing-line [] i section line e = refl
missing-line (f ∷ fs) zero section line e = rw e refl
missing-line (f ∷ fs) (suc i) section line e = ap (λ gs. f ∷ gs) (missing-line fs i section line e)

-- the counts after a write to those of one file
pub counts-set : (counts : List FileCounts) (files before : List File) (change : File → File) (i : ℕ) (c : FileCounts) (g : File)
    → counts ≡ files_counts before → files ≡ modify change before i → i < length files → g ≡ get_or files i g → c ≡ file_counts g
    → set counts i c ≡ files_counts files
counts-set counts files before change i c g counted after h here new =
    let within : i < length before = omega (arith, ap (λ (fs : List File). length fs) after, length-modify change before i) in
    ap (λ cs. set cs i c) counted
    ∙ ap (λ d. set (files_counts before) i d) new
    ∙ set-modify file_counts change before i g within (here ∙ ap (λ fs. get_or fs i g) after)
    ∙ ap files_counts (sym after)

-- past the last file nothing is counted
pub counts-past : (counts : List FileCounts) (files before : List File) (change : File → File) (i : ℕ)
    → counts ≡ files_counts before → files ≡ modify change before i → length files ≤ i → counts ≡ files_counts files
counts-past counts files before change i counted after h =
    let past : length before ≤ i = omega (arith, ap (λ (fs : List File). length fs) after, length-modify change before i) in
    counted ∙ ap files_counts (sym (modify-past change before i past)) ∙ ap files_counts (sym after)

-- there are counts of each file
pub counts-within : (counts : List FileCounts) (files before : List File) (change : File → File) (i : ℕ)
    → counts ≡ files_counts before → files ≡ modify change before i → i < length files → i < length counts
counts-within counts files before change i counted after h =
    omega (arith, ap (λ (fs : List File). length fs) after, length-modify change before i, ap (λ (cs : List FileCounts). length cs) counted, length-map before file_counts)

-- there was such a file before
pub before-within : (files before : List File) (change : File → File) (i : ℕ) → files ≡ modify change before i → i < length files → i < length before
before-within files before change i after h = omega (arith, ap (λ (fs : List File). length fs) after, length-modify change before i)
