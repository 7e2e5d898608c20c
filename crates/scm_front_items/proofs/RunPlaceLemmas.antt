-- Which items the runs of files, sections and lines have, and that their marks are those of the files.
use Rattle.std.proofs.Common.{◌≡◌, ℕ, zero, suc, ◌+◌, ◌<◌, ◌≤◌, Bool, true, false, cond, ◌&&◌, ◌||◌, List, [], ◌∷◌, ◌++◌, length, drop, refl, sym, ap, ◌∙◌, subst, Option, Some, None, inl, inr, arith}
use Rattle.std.specs.Prelude.{not, nat_le, nat_lt, slice_get}
use Rattle.std.specs.List.{list_all}
use Rattle.std.proofs.lemmas.Bool.{and_parts}
use Rattle.std.proofs.lemmas.Bool.Decides.{nat_tests}
use Rattle.std.proofs.lemmas.List.{drop-drop}
use Rattle.std.proofs.lemmas.Option.{slice_get_cases, slice_get_past}
use Rattle.scm_types.specs.declared.file.File.{File}
use Rattle.scm_types.specs.declared.section.Section.{Section}
use Rattle.scm_types.specs.declared.keys.SelectionKey.{SelectionKey}
use Rattle.scm_types.specs.declared.keys.SelectionKey.TheVariants as keys
use Rattle.scm_types.specs.Marks.{section_marks}
use Rattle.scm_selection.specs.KeysAround.{sections_at, sections_in}
use Rattle.scm_front_items.specs.declared.runs.Run.{Run}
use Rattle.scm_front_items.specs.Ranges.{is_mode_section}
use Rattle.scm_front_items.specs.Runs.{marks_of_files}
use Rattle.scm_front_items.specs.Steps.{marks_in, marks_at, run_of, whole_run, section_run, sections_runs, file_runs, files_runs, runs_of_files, runs_of_section, item_run, runs_of_key, agree, is_as_run}
use Rattle.scm_front_items.specs.Targets.{is_as, passes_if_there}
use Rattle.scm_front_items.proofs.PlaceLemmas.{inner, inner-files, shape, same-length, Among, Held, covered, same}

-- ---- the marks of runs

pub agree-shift : (y : Bool) (k : ℕ) (xs all : List Bool) → agree (suc k) xs (y ∷ all) ≡ agree k xs all
agree-shift y k [] all = refl
agree-shift y k (x ∷ xs) all =
    let next : suc k + 1 ≡ suc (k + 1) = omega arith in
    ap (λ (b : Bool). passes_if_there (is_as x) (slice_get all k) && b) (ap (λ (n : ℕ). agree n xs (y ∷ all)) next ∙ agree-shift y (k + 1) xs all)

pub is-itself : (x : Bool) → is_as x x ≡ true
is-itself true = refl
is-itself false = refl

own-marks : (xs : List Bool) → agree 0 xs xs ≡ true
own-marks [] = refl
own-marks (x ∷ xs) = rw (is-itself x) (agree-shift x 0 xs xs ∙ own-marks xs)

own-mark : (all : List Bool) (k : ℕ) (m : Bool) → slice_get all k ≡ Some m → agree k (m ∷ []) all ≡ true
own-mark all k m e = rw e (rw (is-itself m) refl)

all-append : {X : Type 0} (test : X → Bool) (xs ys : List X) → list_all test xs ≡ true → list_all test ys ≡ true → list_all test (xs ++ ys) ≡ true
all-append test [] ys h k = k
all-append test (x ∷ xs) ys h k =
    let parts = and_parts (test x) (list_all test xs) h in
    rw parts.0 (all-append test xs ys parts.1 k)

either-all : {X : Type 0} (test : X → Bool) (b : Bool) (xs : List X) → list_all test xs ≡ true → list_all test (cond b xs []) ≡ true
either-all test true xs h = h
either-all test false xs h = refl

drop-first : {X : Type 0} (i : ℕ) (xs : List X) (y : X) (ys : List X) → drop i xs ≡ y ∷ ys → slice_get xs i ≡ Some y
drop-first zero [] y ys e = absurd (cc e)
drop-first (suc i) [] y ys e = absurd (cc e)
drop-first zero (x ∷ xs) y ys e = let first : x ≡ y = cc e in ap (λ (z : _). Some z) first
drop-first (suc i) (x ∷ xs) y ys e = drop-first i xs y ys e

drop-rest : {X : Type 0} (i : ℕ) (xs : List X) (y : X) (ys : List X) → drop i xs ≡ y ∷ ys → drop (i + 1) xs ≡ ys
drop-rest i xs y ys e = sym (drop-drop 1 i xs) ∙ ap (λ (list : List _). drop 1 list) e

module _ (files : List File) where
  single : (r : Run) → is_as_run files r ≡ true → list_all (is_as_run files) (r ∷ []) ≡ true
  single r e = rw e refl

  whole-own : (file index : ℕ) (s : Section) → slice_get (sections_at files file) index ≡ Some s → list_all (is_as_run files) (whole_run file index (section_marks s)) ≡ true
  whole-own file index s e =
      either-all (is_as_run files) (nat_lt 0 (length (section_marks s))) (run_of file index 0 (section_marks s) ∷ [])
      (single (run_of file index 0 (section_marks s)) (ap (λ (o : Option Section). agree 0 (section_marks s) (marks_in o)) e ∙ own-marks (section_marks s)))

  sections-own : (modes : Bool) (file index : ℕ) (list : List Section) → drop index (sections_at files file) ≡ list
      → list_all (is_as_run files) (sections_runs modes file index list) ≡ true
  sections-own modes file index [] e = refl
  sections-own modes file index (s ∷ ss) e =
      all-append (is_as_run files) (section_run modes file index s) (sections_runs modes file (index + 1) ss)
      (either-all (is_as_run files) (not modes || is_mode_section s) (whole_run file index (section_marks s)) (whole-own file index s (drop-first index (sections_at files file) s ss e)))
      (sections-own modes file (index + 1) ss (drop-rest index (sections_at files file) s ss e))

  files-own : (first last index : ℕ) (list : List File) → drop index files ≡ list → list_all (is_as_run files) (files_runs first last index list) ≡ true
  files-own first last index [] e = refl
  files-own first last index (f ∷ fs) e =
      let here : sections_at files index ≡ f.sections = ap sections_in (drop-first index files f fs e) in
      all-append (is_as_run files) (file_runs first last index f) (files_runs first last (index + 1) fs)
      (either-all (is_as_run files) (nat_le first index && nat_le index last) (sections_runs false index 0 f.sections) (sections-own false index 0 f.sections here))
      (files-own first last (index + 1) fs (drop-rest index files f fs e))

  section-own : (file index : ℕ) (o : Option Section) → slice_get (sections_at files file) index ≡ o
      → list_all (is_as_run files) (runs_of_section file index (sections_at files file) o) ≡ true
  section-own file index None e = refl
  section-own file index (Some s) e =
      let list = sections_at files file in
      either (is_mode_section s) (sections_runs false file 0 list) (sections_runs true file 0 list ++ whole_run file index (section_marks s))
      (sections-own false file 0 list refl)
      (all-append (is_as_run files) (sections_runs true file 0 list) (whole_run file index (section_marks s)) (sections-own true file 0 list refl) (whole-own file index s e))
    where
      either : (b : Bool) (xs ys : List Run) → list_all (is_as_run files) xs ≡ true → list_all (is_as_run files) ys ≡ true → list_all (is_as_run files) (cond b xs ys) ≡ true
      either true xs ys h k = h
      either false xs ys h k = k

  item-own : (file section item : ℕ) (o : Option Bool) → slice_get (marks_at files file section) item ≡ o
      → list_all (is_as_run files) (item_run file section item o) ≡ true
  item-own file section item None e = refl
  item-own file section item (Some mark) e = single (run_of file section item (mark ∷ [])) (own-mark (marks_at files file section) item mark e)

  -- runs of files have their marks
  pub runs-of-files-own : (first last : ℕ) → list_all (is_as_run files) (runs_of_files first last files) ≡ true
  runs-of-files-own first last = files-own first last 0 files refl

  pub runs-of-key-own : (key : SelectionKey) → list_all (is_as_run files) (runs_of_key files key) ≡ true
  runs-of-key-own keys.None = refl
  runs-of-key-own (keys.File key) = runs-of-files-own key.file_idx key.file_idx
  runs-of-key-own (keys.Section key) = section-own key.file_idx key.section_idx (slice_get (sections_at files key.file_idx) key.section_idx) refl
  runs-of-key-own (keys.Line key) =
      all-append (is_as_run files) (sections_runs true key.file_idx 0 (sections_at files key.file_idx))
      (item_run key.file_idx key.section_idx key.line_idx (slice_get (marks_at files key.file_idx key.section_idx) key.line_idx))
      (sections-own true key.file_idx 0 (sections_at files key.file_idx) refl)
      (item-own key.file_idx key.section_idx key.line_idx _ refl)

-- ---- the items of runs

pub among-left : (xs ys : List Run) (f s i : ℕ) → Among xs f s i → Among (xs ++ ys) f s i
among-left [] ys f s i a = absurd a
among-left (x ∷ xs) ys f s i (inl c) = inl c
among-left (x ∷ xs) ys f s i (inr a) = inr (among-left xs ys f s i a)

pub among-right : (xs ys : List Run) (f s i : ℕ) → Among ys f s i → Among (xs ++ ys) f s i
among-right [] ys f s i a = a
among-right (x ∷ xs) ys f s i a = inr (among-right xs ys f s i a)

among-if : (b : Bool) (xs : List Run) (f s i : ℕ) → b ≡ true → Among xs f s i → Among (cond b xs []) f s i
among-if true xs f s i e a = a
among-if false xs f s i e a = absurd (cc e)

pub among-whole : (file index i : ℕ) (marks : List Bool) → i < length marks → Among (whole_run file index marks) file index i
among-whole file index i marks h =
    among-if (nat_lt 0 (length marks)) (run_of file index 0 marks ∷ []) file index i (grind (arith, nat_tests, h))
    (inl (record { file = refl; section = refl; from = omega arith; to = omega (arith, h) }))

among-section : (modes : Bool) (file index i : ℕ) (s : Section) → (not modes || is_mode_section s) ≡ true → i < length (section_marks s)
    → Among (section_run modes file index s) file index i
among-section modes file index i s e h = among-if (not modes || is_mode_section s) (whole_run file index (section_marks s)) file index i e (among-whole file index i (section_marks s) h)

among-sections-from : (modes : Bool) (file index : ℕ) (list : List Section) (j place i : ℕ) (s : Section) → slice_get list j ≡ Some s → place ≡ index + j
    → (not modes || is_mode_section s) ≡ true → i < length (section_marks s) → Among (sections_runs modes file index list) file place i
among-sections-from modes file index [] j place i s e at test h = absurd (cc e)
among-sections-from modes file index (x ∷ xs) zero place i s e at test h =
    let same : x ≡ s = cc e in
    let here : index ≡ place = omega (arith, at) in
    subst (λ (p : ℕ). Among (section_run modes file index x ++ sections_runs modes file (index + 1) xs) file p i) here
    (among-left (section_run modes file index x) (sections_runs modes file (index + 1) xs) file index i
    (subst (λ (t : Section). Among (section_run modes file index t) file index i) (sym same) (among-section modes file index i s test h)))
among-sections-from modes file index (x ∷ xs) (suc j) place i s e at test h =
    among-right (section_run modes file index x) (sections_runs modes file (index + 1) xs) file place i
    (among-sections-from modes file (index + 1) xs j place i s e (omega (arith, at)) test h)

pub among-sections : (modes : Bool) (file : ℕ) (list : List Section) (index i : ℕ) (s : Section) → slice_get list index ≡ Some s
    → (not modes || is_mode_section s) ≡ true → i < length (section_marks s) → Among (sections_runs modes file 0 list) file index i
among-sections modes file list index i s e test h = among-sections-from modes file 0 list index index i s e (omega arith) test h

among-files-from : (first last index : ℕ) (list : List File) (j place s i : ℕ) (file : File) (section : Section) → slice_get list j ≡ Some file → place ≡ index + j
    → first ≤ place → place ≤ last → slice_get file.sections s ≡ Some section → i < length (section_marks section)
    → Among (files_runs first last index list) place s i
among-files-from first last index [] j place s i file section e at from to is h = absurd (cc e)
among-files-from first last index (x ∷ xs) zero place s i file section e at from to is h =
    let same : x ≡ file = cc e in
    let here : index ≡ place = omega (arith, at) in
    let within : (nat_le first index && nat_le index last) ≡ true = grind (arith, nat_tests, here, from, to) in
    subst (λ (p : ℕ). Among (file_runs first last index x ++ files_runs first last (index + 1) xs) p s i) here
    (among-left (file_runs first last index x) (files_runs first last (index + 1) xs) index s i
    (subst (λ (t : File). Among (file_runs first last index t) index s i) (sym same)
    (among-if (nat_le first index && nat_le index last) (sections_runs false index 0 file.sections) index s i within
    (among-sections false index file.sections s i section is refl h))))
among-files-from first last index (x ∷ xs) (suc j) place s i file section e at from to is h =
    among-right (file_runs first last index x) (files_runs first last (index + 1) xs) place s i
    (among-files-from first last (index + 1) xs j place s i file section e (omega (arith, at)) from to is h)

pub among-files : (first last : ℕ) (files : List File) (f s i : ℕ) (file : File) (section : Section) → slice_get files f ≡ Some file
    → first ≤ f → f ≤ last → slice_get file.sections s ≡ Some section → i < length (section_marks section) → Among (runs_of_files first last files) f s i
among-files first last files f s i file section e from to is h = among-files-from first last 0 files f f s i file section e (omega arith) from to is h

-- ---- an item that is there, or not

module _ (files after : List File) (e : shape (marks_of_files after) ≡ shape (marks_of_files files)) (runs : List Run) (f s i : ℕ) where
  -- what is to be shown of an item that is there
  abbrev pub There : Type 0
  There = (file : File) (section : Section) → slice_get files f ≡ Some file → slice_get file.sections s ≡ Some section → i < length (section_marks section)
      → Held runs (marks_of_files files) (marks_of_files after) f s i

  in-section : (file : File) (o : Option Section) → slice_get files f ≡ Some file → slice_get file.sections s ≡ o → i < length (marks_in o) → There
      → Held runs (marks_of_files files) (marks_of_files after) f s i
  in-section file None is at h there = absurd (omega (arith, h))
  in-section file (Some section) is at h there = there file section is at h

  in-file : (o : Option File) → slice_get files f ≡ o → i < length (marks_in (slice_get (sections_in o) s)) → There
      → Held runs (marks_of_files files) (marks_of_files after) f s i
  in-file None is h there = absurd (omega (arith, h))
  in-file (Some file) is h there = in-section file (slice_get file.sections s) is refl h there

  pub held-there : There → Held runs (marks_of_files files) (marks_of_files after) f s i
  held-there there =
      let before = inner (marks_of_files files) f s in
      elim (slice_get_cases before i).1 [
        | inl is ↦ in-file (slice_get files f) refl (subst (λ (list : List Bool). i < length list) (inner-files files f s) is.1) there
        | inr past ↦
            same (slice_get_past (inner (marks_of_files after) f s) i
            (subst (λ (n : ℕ). n ≤ i) (sym (same-length (marks_of_files after) (marks_of_files files) e f s)) past.0)
            ∙ sym past.1)
      ]

-- the runs of all files from `first` to `last` have each item of these
pub held-in-files : (files after : List File) → shape (marks_of_files after) ≡ shape (marks_of_files files) → (first last f s i : ℕ) → first ≤ f → f ≤ last
    → Held (runs_of_files first last files) (marks_of_files files) (marks_of_files after) f s i
held-in-files files after e first last f s i from to =
    held-there files after e (runs_of_files first last files) f s i
    (λ file section is at h. covered (among-files first last files f s i file section is from to at h))
