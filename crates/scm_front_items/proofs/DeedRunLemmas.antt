-- The runs of files have each item whose mark deeds in these files change.
use Rattle.std.proofs.Common.{◌≡◌, ◌≢◌, ℕ, ◌<◌, ◌≤◌, min, max, Bool, true, false, cond, ◌&&◌, ◌||◌, List, [], ◌∷◌, length, refl, sym, ap, ◌∙◌, Option, arith}
use Rattle.std.specs.Prelude.{not, nat_le, nat_lt, filter, slice_get}
use Rattle.std.specs.List.{list_all}
use Rattle.std.proofs.lemmas.Bool.{and_parts, false≢true}
use Rattle.std.proofs.lemmas.Bool.Decides.{nat_tests}
use Rattle.std.proofs.lemmas.Option.{slice_get_within}
use Rattle.scm_types.specs.declared.file.File.{File}
use Rattle.scm_types.specs.declared.keys.SelectionKey.{SelectionKey}
use Rattle.scm_types.specs.declared.keys.SelectionKey.TheVariants as keys
use Rattle.scm_types.proofs.EditLemmas.{slice_get-modify-other}
use Rattle.scm_selection.specs.KeyLists.{all_keys, is_line}
use Rattle.scm_selection.specs.KeysAround.{is_key_of, sections_in}
use Rattle.scm_selection.specs.Toggle.{with_all_inverted, with_all_set, with_file_toggled, with_key_toggled, with_line_toggled, with_section_toggled}
use Rattle.scm_front_items.specs.declared.targets.Deed.{Deed}
use Rattle.scm_front_items.specs.declared.targets.Deed.TheVariants.{Mark, Fold}
use Rattle.scm_front_items.specs.Ranges.{is_between, is_in_range, is_within, lines_between, marking}
use Rattle.scm_front_items.specs.Runs.{marks_of_files, marks_with}
use Rattle.scm_front_items.specs.Search.{is_above}
use Rattle.scm_front_items.specs.Steps.{changed_step, file_number, is_file_within, marks_in, runs_of_files, runs_of_range}
use Rattle.scm_front_items.specs.Targets.{after_deed, after_deeds, is_marked, key_of}
use Rattle.scm_front_items.proofs.PlaceLemmas.{inner-files, shape, Held, covered, same, step-restores}
use Rattle.scm_front_items.proofs.RunPlaceLemmas.{among-files, held-in-files, held-there, runs-of-files-own}
use Rattle.scm_front_items.proofs.ShapeLemmas.{shape-deeds, shape-inverted, shape-set}

-- ---- all files

-- the runs of all files have every item
pub held-all : (files after : List File) → shape (marks_of_files after) ≡ shape (marks_of_files files) → (f s i : ℕ)
    → Held (runs_of_files 0 (length files) files) (marks_of_files files) (marks_of_files after) f s i
held-all files after e f s i =
    held-there files after e (runs_of_files 0 (length files) files) f s i
    (λ file section is at h.
    let within : f < length files = slice_get_within files f file is in
    covered (among-files 0 (length files) files f s i file section is (omega arith) (omega (arith, within)) at h))

-- so whatever happens to the marks, a step of them leads back
pub all-restores : (files after : List File) → shape (marks_of_files after) ≡ shape (marks_of_files files)
    → marks_with (changed_step after (runs_of_files 0 (length files) files)) (marks_of_files after) ≡ marks_of_files files
all-restores files after e =
    step-restores files after e (runs_of_files 0 (length files) files) (runs-of-files-own files 0 (length files)) (λ f s i. held-all files after e f s i)

pub inverted-restores : (files : List File)
    → marks_with (changed_step (with_all_inverted files) (runs_of_files 0 (length files) files)) (marks_of_files (with_all_inverted files)) ≡ marks_of_files files
inverted-restores files = all-restores files (with_all_inverted files) (shape-inverted files)

pub set-restores : (files : List File)
    → marks_with (changed_step (with_all_set files) (runs_of_files 0 (length files) files)) (marks_of_files (with_all_set files)) ≡ marks_of_files files
set-restores files = all-restores files (with_all_set files) (shape-set files)

-- ---- some files

-- files outside are as they were
abbrev pub StaysOutside : ℕ → ℕ → List File → List File → Type 0
StaysOutside first last files after = (f : ℕ) → (nat_le first f && nat_le f last) ≡ false → slice_get after f ≡ slice_get files f

held-outside : (files after : List File) (first last f s i : ℕ) → slice_get after f ≡ slice_get files f
    → Held (runs_of_files first last files) (marks_of_files files) (marks_of_files after) f s i
held-outside files after first last f s i e =
    same (ap (λ (list : List Bool). slice_get list i) (inner-files after f s)
    ∙ ap (λ (o : Option File). slice_get (marks_in (slice_get (sections_in o) s)) i) e
    ∙ ap (λ (list : List Bool). slice_get list i) (sym (inner-files files f s)))

held-by-test : (files after : List File) → shape (marks_of_files after) ≡ shape (marks_of_files files) → (first last f s i : ℕ) → StaysOutside first last files after
    → (b : Bool) → (nat_le first f && nat_le f last) ≡ b → Held (runs_of_files first last files) (marks_of_files files) (marks_of_files after) f s i
held-by-test files after e first last f s i stays false outside = held-outside files after first last f s i (stays f outside)
held-by-test files after e first last f s i stays true inside =
    let parts = and_parts (nat_le first f) (nat_le f last) inside in
    held-in-files files after e first last f s i (grind (arith, nat_tests, parts.0)) (grind (arith, nat_tests, parts.1))

pub files-restore : (files after : List File) → shape (marks_of_files after) ≡ shape (marks_of_files files) → (first last : ℕ) → StaysOutside first last files after
    → marks_with (changed_step after (runs_of_files first last files)) (marks_of_files after) ≡ marks_of_files files
files-restore files after e first last stays =
    step-restores files after e (runs_of_files first last files) (runs-of-files-own files first last)
    (λ f s i. held-by-test files after e first last f s i stays (nat_le first f && nat_le f last) refl)

-- ---- deeds

pub toggle-outside : (key : SelectionKey) (files : List File) (f : ℕ) → file_number key ≢ f → slice_get (with_key_toggled key files) f ≡ slice_get files f
toggle-outside keys.None files f ne = refl
toggle-outside (keys.File key) files f ne = slice_get-modify-other with_file_toggled files key.file_idx f ne
toggle-outside (keys.Section key) files f ne = slice_get-modify-other (with_section_toggled key.section_idx) files key.file_idx f ne
toggle-outside (keys.Line key) files f ne = slice_get-modify-other (with_line_toggled key.section_idx key.line_idx) files key.file_idx f ne

either-outside : (b : Bool) (key : SelectionKey) (files : List File) (f : ℕ) → file_number key ≢ f → slice_get (cond b (with_key_toggled key files) files) f ≡ slice_get files f
either-outside true key files f ne = toggle-outside key files f ne
either-outside false key files f ne = refl

deed-outside : (files : List File) (deed : Deed) (f : ℕ) → file_number (key_of deed) ≢ f → slice_get (after_deed files deed) f ≡ slice_get files f
deed-outside files (Mark t) f ne = either-outside (is_key_of files t.key && not (is_marked files t)) t.key files f ne
deed-outside files (Fold key) f ne = refl

-- a file outside is not that of a key inside
pub number-outside : (first last f n : ℕ) → (nat_le first f && nat_le f last) ≡ false → (nat_le first n && nat_le n last) ≡ true → n ≢ f
number-outside first last f n outside inside is = absurd (false≢true (sym outside ∙ sym (ap (λ (x : ℕ). nat_le first x && nat_le x last) is) ∙ inside))

deeds-outside : (files : List File) (deeds : List Deed) (first last : ℕ) → list_all (λ (d : Deed). is_file_within first last (key_of d)) deeds ≡ true
    → StaysOutside first last files (after_deeds files deeds)
deeds-outside files [] first last h f outside = refl
deeds-outside files (d ∷ ds) first last h f outside =
    let parts = and_parts (is_file_within first last (key_of d)) (list_all (λ (x : Deed). is_file_within first last (key_of x)) ds) h in
    deeds-outside (after_deed files d) ds first last parts.1 f outside
    ∙ deed-outside files d f (number-outside first last f (file_number (key_of d)) outside parts.0)

pub deeds-restore : (files : List File) (deeds : List Deed) (first last : ℕ) → list_all (λ (d : Deed). is_file_within first last (key_of d)) deeds ≡ true
    → marks_with (changed_step (after_deeds files deeds) (runs_of_files first last files)) (marks_of_files (after_deeds files deeds)) ≡ marks_of_files files
deeds-restore files deeds first last h = files-restore files (after_deeds files deeds) (shape-deeds files deeds) first last (deeds-outside files deeds first last h)

-- ---- a range

not-less : (m n : ℕ) (b : Bool) → not (nat_lt m n || b) ≡ true → n ≤ m
not-less m n b e = by_test (nat_lt m n) refl
  where
    by_test : (t : Bool) → nat_lt m n ≡ t → n ≤ m
    by_test false less = grind (arith, nat_tests, less)
    by_test true less = absurd (false≢true (sym (ap (λ (x : Bool). not (x || b)) less) ∙ e))

from-first : (p k : SelectionKey) → is_line k ≡ true → not (is_above k p) ≡ true → file_number p ≤ file_number k
from-first p keys.None line e = absurd (cc line)
from-first p (keys.File k) line e = absurd (cc line)
from-first p (keys.Section k) line e = absurd (cc line)
from-first keys.None (keys.Line k) line e = omega arith
from-first (keys.File p) (keys.Line k) line e = not-less k.file_idx p.file_idx _ e
from-first (keys.Section p) (keys.Line k) line e = not-less k.file_idx p.file_idx _ e
from-first (keys.Line p) (keys.Line k) line e = not-less k.file_idx p.file_idx _ e

to-last : (q k : SelectionKey) → is_line k ≡ true → not (is_above q k) ≡ true → file_number k ≤ file_number q
to-last q keys.None line e = absurd (cc line)
to-last q (keys.File k) line e = absurd (cc line)
to-last q (keys.Section k) line e = absurd (cc line)
to-last keys.None (keys.Line k) line e = absurd (cc e)
to-last (keys.File q) (keys.Line k) line e = not-less q.file_idx k.file_idx _ e
to-last (keys.Section q) (keys.Line k) line e = not-less q.file_idx k.file_idx _ e
to-last (keys.Line q) (keys.Line k) line e = not-less q.file_idx k.file_idx _ e

-- a line of the range lies in a file of the range
between-numbers : (a b k n : ℕ) → a ≤ n → n ≤ b → (nat_le (min a b) n && nat_le n (max a b)) ≡ true
between-numbers a b k n from to = grind (arith, nat_tests, from, to)

swapped-numbers : (a b k n : ℕ) → b ≤ n → n ≤ a → (nat_le (min a b) n && nat_le n (max a b)) ≡ true
swapped-numbers a b k n from to = grind (arith, nat_tests, from, to)

in-files : (a b k : SelectionKey) → is_line k ≡ true → is_between a b k ≡ true
    → is_file_within (min (file_number a) (file_number b)) (max (file_number a) (file_number b)) k ≡ true
in-files a b k line e = by_test (is_within a b k) refl
  where
    downwards : is_within a b k ≡ true → is_file_within (min (file_number a) (file_number b)) (max (file_number a) (file_number b)) k ≡ true
    downwards h =
        let parts = and_parts (not (is_above k a)) (not (is_above b k)) h in
        between-numbers (file_number a) (file_number b) 0 (file_number k) (from-first a k line parts.0) (to-last b k line parts.1)

    upwards : is_within b a k ≡ true → is_file_within (min (file_number a) (file_number b)) (max (file_number a) (file_number b)) k ≡ true
    upwards h =
        let parts = and_parts (not (is_above k b)) (not (is_above a k)) h in
        swapped-numbers (file_number a) (file_number b) 0 (file_number k) (from-first b k line parts.0) (to-last a k line parts.1)

    by_test : (t : Bool) → is_within a b k ≡ t → is_file_within (min (file_number a) (file_number b)) (max (file_number a) (file_number b)) k ≡ true
    by_test true h = downwards h
    by_test false h = upwards (sym (ap (λ (x : Bool). x || is_within b a k) h) ∙ e)

either-range : (a b k : SelectionKey) (t : Bool) (ks : List SelectionKey) → is_in_range a b k ≡ t
    → list_all (is_file_within (min (file_number a) (file_number b)) (max (file_number a) (file_number b))) ks ≡ true
    → list_all (is_file_within (min (file_number a) (file_number b)) (max (file_number a) (file_number b))) (cond t (k ∷ ks) ks) ≡ true
either-range a b k true ks e h =
    let parts = and_parts (is_line k) (is_between a b k) e in
    rw (in-files a b k parts.0 parts.1) h
either-range a b k false ks e h = h

range-inside : (a b : SelectionKey) (ks : List SelectionKey)
    → list_all (is_file_within (min (file_number a) (file_number b)) (max (file_number a) (file_number b))) (filter (is_in_range a b) ks) ≡ true
range-inside a b [] = refl
range-inside a b (k ∷ ks) = either-range a b k (is_in_range a b k) (filter (is_in_range a b) ks) refl (range-inside a b ks)

-- the lines of a range lie in its files
pub lines-inside : (a b : SelectionKey) (files : List File)
    → list_all (is_file_within (min (file_number a) (file_number b)) (max (file_number a) (file_number b))) (lines_between a b files) ≡ true
lines-inside a b files = range-inside a b (all_keys files)

pub marking-inside : (mark : Bool) (first last : ℕ) (ks : List SelectionKey) → list_all (is_file_within first last) ks ≡ true
    → list_all (λ (d : Deed). is_file_within first last (key_of d)) (marking mark ks) ≡ true
marking-inside mark first last [] h = refl
marking-inside mark first last (k ∷ ks) h =
    let parts = and_parts (is_file_within first last k) (list_all (is_file_within first last) ks) h in
    rw parts.0 (marking-inside mark first last ks parts.1)

pub range-restores : (files : List File) (a b : SelectionKey) (mark : Bool)
    → marks_with (changed_step (after_deeds files (marking mark (lines_between a b files))) (runs_of_range a b files))
    (marks_of_files (after_deeds files (marking mark (lines_between a b files)))) ≡ marks_of_files files
range-restores files a b mark =
    deeds-restore files (marking mark (lines_between a b files)) (min (file_number a) (file_number b)) (max (file_number a) (file_number b))
    (marking-inside mark _ _ (lines_between a b files) (lines-inside a b files))
