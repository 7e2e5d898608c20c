-- A repair makes the marks of a file fit each other, and leaves those that fit.
use Rattle.std.proofs.Common.{◌≡◌, Bool, true, false, not, cond, ◌&&◌, ◌||◌, List, [], ◌∷◌, map, refl, ap, ◌∙◌}
use Rattle.std.specs.Prelude.{IsTrue}
use Rattle.std.specs.List.{list_any, list_all}
use Rattle.scm_types.specs.declared.line.SectionChangedLine.{SectionChangedLine}
use Rattle.scm_types.specs.declared.file_mode.FileMode.{FileMode}
use Rattle.scm_types.specs.declared.file_mode.FileMode.TheVariants as modes
use Rattle.scm_types.specs.declared.section.Section.{Section}
use Rattle.scm_types.specs.declared.section.Section.TheVariants as sections
use Rattle.scm_types.specs.declared.file.File.{File}
use Rattle.scm_types.specs.Mode.{is_absent}
use Rattle.scm_types.specs.Repair.{RepairMakesCoherent, is_deletion, is_new_and_deleted, file_after_repair, some_line, with_creation, with_deletion_unchecked, with_mode_checked, without_deletion}
use Rattle.scm_types.specs.Same.{is_checked_deletion, is_unchecked_creation, line_marks}
use Rattle.scm_types.proofs.FitLemmas.{any_map, none_map, every_line, is_on, Fits, FitsFile, fits_from, coherent_from, deletion_gone, creation_checked, deletion_before}

-- tests of lists against each other
or_none : (a b : Bool) → (a || b) ≡ false → (a ≡ false) × (b ≡ false)
or_none true b e = (cc, cc)
or_none false b e = (refl, e)

and_second : (a b : Bool) → (a && b) ≡ false → IsTrue a → b ≡ false
and_second true b e h = e
and_second false b e h = cc

and_true : (a b : Bool) → (a && b) ≡ true → (a ≡ true) × (b ≡ true)
and_true true b e = (refl, e)
and_true false b e = (cc, cc)

none_all : {A : Type 0} (f g : A → Bool) → ((x : A) → f x ≡ false → IsTrue (g x)) → (xs : List A) → list_any f xs ≡ false → IsTrue (list_all g xs)
none_all f g h [] e = refl
none_all f g h (x ∷ xs) e =
    let both = or_none (f x) (list_any f xs) e in
    rw (h x both.0) (none_all f g h xs both.1)

or_not_and : (a b c d : Bool) → (a ≡ true → c ≡ false) → (b ≡ true → d ≡ false) → (a || b) ≡ true → (c && d) ≡ false
or_not_and true b c d f g e = rw (f refl) refl
or_not_and false b true d f g e = g e
or_not_and false b false d f g e = refl

some_not_all : {A : Type 0} (f g : A → Bool) → ((x : A) → f x ≡ true → g x ≡ false) → (xs : List A) → list_any f xs ≡ true → list_all g xs ≡ false
some_not_all f g h [] e = cc
some_not_all f g h (x ∷ xs) e = or_not_and (f x) (list_any f xs) (g x) (list_all g xs) (h x) (some_not_all f g h xs) e

no_line : (f g : Bool → Bool) → ((b : Bool) → f b ≡ false → IsTrue (g b)) → (ss : List Section) → some_line f ss ≡ false → IsTrue (list_all (every_line g) ss)
no_line f g h ss e = none_all (λ s. list_any f (line_marks s)) (every_line g) (λ s. none_all f g h (line_marks s)) ss e

not_every_line : (f g : Bool → Bool) → ((b : Bool) → f b ≡ true → g b ≡ false) → (ss : List Section) → some_line f ss ≡ true → list_all (every_line g) ss ≡ false
not_every_line f g h ss e = some_not_all (λ s. list_any f (line_marks s)) (every_line g) (λ s. some_not_all f g h (line_marks s)) ss e

pub any_mark : (f : Bool → Bool) (lines : List SectionChangedLine) → list_any (λ (l : SectionChangedLine). f l.is_checked) lines ≡ list_any f (map (λ (l : SectionChangedLine). l.is_checked) lines)
any_mark f [] = refl
any_mark f (l ∷ lines) = rw (any_mark f lines) refl

off_on : (b : Bool) → not b ≡ false → IsTrue (is_on b)
off_on true e = refl
off_on false e = cc

on_off : (b : Bool) → b ≡ false → IsTrue (not b)
on_off true e = cc
on_off false e = refl

not_on : (b : Bool) → not b ≡ true → is_on b ≡ false
not_on true e = cc
not_on false e = refl

on_not : (b : Bool) → b ≡ true → not b ≡ false
on_not true e = refl
on_not false e = cc

-- sections that a half of a repair leaves
deletion_kept : (s : Section) → is_deletion (with_deletion_unchecked s) ≡ is_deletion s
deletion_kept (sections.Unchanged lines) = refl
deletion_kept (sections.Changed lines) = refl
deletion_kept (sections.FileMode c m) = refl
deletion_kept (sections.Binary c old new) = refl

deletions_kept : (ss : List Section) → list_any is_deletion (map with_deletion_unchecked ss) ≡ list_any is_deletion ss
deletions_kept [] = refl
deletions_kept (s ∷ ss) = rw (deletion_kept s, deletions_kept ss) refl

deletion_left : (s : Section) → is_checked_deletion s ≡ false → with_deletion_unchecked s ≡ s
deletion_left (sections.Unchanged lines) e = refl
deletion_left (sections.Changed lines) e = refl
deletion_left (sections.FileMode c (modes.Unix bits)) e = refl
deletion_left (sections.FileMode true modes.Absent) e = cc
deletion_left (sections.FileMode false modes.Absent) e = refl
deletion_left (sections.Binary c old new) e = refl

deletions_left : (ss : List Section) → list_any is_checked_deletion ss ≡ false → map with_deletion_unchecked ss ≡ ss
deletions_left [] e = refl
deletions_left (s ∷ ss) e =
    let both = or_none (is_checked_deletion s) (list_any is_checked_deletion ss) e in
    rw (deletion_left s both.0, deletions_left ss both.1) refl

mode_left : (s : Section) → is_unchecked_creation s ≡ false → is_deletion s ≡ false → with_mode_checked s ≡ s
mode_left (sections.Unchanged lines) e d = refl
mode_left (sections.Changed lines) e d = refl
mode_left (sections.FileMode true m) e d = refl
mode_left (sections.FileMode false (modes.Unix bits)) e d = cc
mode_left (sections.FileMode false modes.Absent) e d = cc
mode_left (sections.Binary c old new) e d = refl

modes_left : (ss : List Section) → list_any is_unchecked_creation ss ≡ false → list_any is_deletion ss ≡ false → map with_mode_checked ss ≡ ss
modes_left [] e d = refl
modes_left (s ∷ ss) e d =
    let made = or_none (is_unchecked_creation s) (list_any is_unchecked_creation ss) e in
    let gone = or_none (is_deletion s) (list_any is_deletion ss) d in
    rw (mode_left s made.0 gone.0, modes_left ss made.1 gone.1) refl

-- ---- the repaired file is coherent

-- after the first half
abbrev HasOn : List Section → Type 0
HasOn ss = IsTrue (list_any is_checked_deletion ss) → IsTrue (list_all (every_line is_on) ss)

first_on : (u : Bool) (ss : List Section) → some_line not ss ≡ u → HasOn (cond u (map with_deletion_unchecked ss) ss)
first_on true ss e t = let none = none_map is_checked_deletion with_deletion_unchecked deletion_gone ss in cc
first_on false ss e t = no_line not is_on off_on ss e

first_kept : (u : Bool) (ss : List Section) → list_any is_deletion (cond u (map with_deletion_unchecked ss) ss) ≡ list_any is_deletion ss
first_kept true ss = deletions_kept ss
first_kept false ss = refl

-- after the second
second_fits : (c : Bool) (mode : FileMode) (ss : List Section) → (is_absent mode && some_line (λ b. b) ss) ≡ c
    → (is_absent mode && list_any is_deletion ss) ≡ false → HasOn ss → Fits mode (cond c (map with_mode_checked ss) ss)
second_fits true mode ss e pure on = record {
  on = λ t.
      let a = (and_true (is_absent mode) (some_line (λ b. b) ss) e).0 in
      let deleted = any_map is_checked_deletion is_deletion with_mode_checked deletion_before ss t in
      let both : (is_absent mode && list_any is_deletion ss) ≡ true = rw (a, deleted) refl in cc;
  off = λ a t. let none = none_map is_unchecked_creation with_mode_checked creation_checked ss in cc;
}
second_fits false mode ss e pure on = record {
  on = on;
  off = λ a t. no_line (λ b. b) not on_off ss (and_second (is_absent mode) (some_line (λ b. b) ss) e a);
}

pub repaired_fits : (file : File) → is_new_and_deleted file ≡ false → FitsFile (file_after_repair file)
repaired_fits file pure =
    let first = without_deletion file.sections in
    let u = some_line not file.sections in
    let kept : list_any is_deletion first ≡ list_any is_deletion file.sections = first_kept u file.sections in
    let still : (is_absent file.file_mode && list_any is_deletion first) ≡ false = ap (λ b. is_absent file.file_mode && b) kept ∙ pure in
    second_fits (is_absent file.file_mode && some_line (λ b. b) first) file.file_mode first refl still (first_on u file.sections refl)

-- ---- a coherent file stays

first_left : (u : Bool) (ss : List Section) → some_line not ss ≡ u → HasOn ss → (d : Bool) → list_any is_checked_deletion ss ≡ d → cond u (map with_deletion_unchecked ss) ss ≡ ss
first_left true ss e on true d = let every = on d in let some = not_every_line not is_on not_on ss e in cc
first_left true ss e on false d = deletions_left ss d
first_left false ss e on b d = refl

second_left : (c : Bool) (mode : FileMode) (ss : List Section) → (is_absent mode && some_line (λ b. b) ss) ≡ c
    → (is_absent mode && list_any is_deletion ss) ≡ false → Fits mode ss → (d : Bool) → list_any is_unchecked_creation ss ≡ d → cond c (map with_mode_checked ss) ss ≡ ss
second_left true mode ss e pure fits true d =
    let both = and_true (is_absent mode) (some_line (λ b. b) ss) e in
    let every = fits.off both.0 d in
    let some = not_every_line (λ b. b) not on_not ss both.1 in cc
second_left true mode ss e pure fits false d =
    let both = and_true (is_absent mode) (some_line (λ b. b) ss) e in
    modes_left ss d (and_second (is_absent mode) (list_any is_deletion ss) pure both.0)
second_left false mode ss e pure fits b d = refl

sections_left : (mode : FileMode) (ss : List Section) → (is_absent mode && list_any is_deletion ss) ≡ false → Fits mode ss → with_creation mode (without_deletion ss) ≡ ss
sections_left mode ss pure fits =
    let first : without_deletion ss ≡ ss = first_left (some_line not ss) ss refl fits.on (list_any is_checked_deletion ss) refl in
    let second : with_creation mode ss ≡ ss = second_left (is_absent mode && some_line (λ b. b) ss) mode ss refl pure fits (list_any is_unchecked_creation ss) refl in
    ap (with_creation mode) first ∙ second

pub repair_makes_coherent : (file : File) → is_new_and_deleted file ≡ false → RepairMakesCoherent file
repair_makes_coherent file pure = record {
  coherent = coherent_from (file_after_repair file) (repaired_fits file pure);
  unchanged = λ h. ap (λ ss. record file { sections = ss }) (sections_left file.file_mode file.sections pure (fits_from file h));
}
