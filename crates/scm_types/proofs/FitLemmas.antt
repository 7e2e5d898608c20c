-- Coherence section by section, and tests of lists that it is made of.
use Rattle.std.proofs.Common.{◌≡◌, Bool, true, false, not, ◌&&◌, ◌||◌, List, [], ◌∷◌, map, refl, ap, ◌∙◌}
use Rattle.std.specs.Prelude.{IsTrue}
use Rattle.std.specs.List.{list_any, list_all, flat_map}
use Rattle.std.proofs.lemmas.List.Folds.{list_all-append}
use Rattle.scm_types.specs.declared.file_mode.FileMode.{FileMode}
use Rattle.scm_types.specs.declared.file_mode.FileMode.TheVariants as modes
use Rattle.scm_types.specs.declared.section.Section.{Section}
use Rattle.scm_types.specs.declared.section.Section.TheVariants as sections
use Rattle.scm_types.specs.declared.file.File.{File}
use Rattle.scm_types.specs.Mode.{is_absent}
use Rattle.scm_types.specs.Repair.{is_deletion, with_deletion_unchecked, with_mode_checked}
use Rattle.scm_types.specs.Same.{IsCoherent, is_checked_deletion, is_unchecked_creation, line_marks}

-- tests of one item and of the rest
pub or_from : (a b c d : Bool) → (IsTrue a → IsTrue c) → (IsTrue b → IsTrue d) → IsTrue (a || b) → IsTrue (c || d)
or_from true b c d f g h = rw (f refl) refl
or_from false b true d f g h = refl
or_from false b false d f g h = g h

pub and_from : (a b c d : Bool) → (IsTrue a → IsTrue c) → (IsTrue b → IsTrue d) → IsTrue (a && b) → IsTrue (c && d)
and_from true b c d f g h = rw (f refl) (g h)
and_from false b c d f g h = cc

-- tests of a list in which each element is changed
pub any_map : {A : Type 0} (p q : A → Bool) (f : A → A) → ((x : A) → IsTrue (p (f x)) → IsTrue (q x)) → (xs : List A) → IsTrue (list_any p (map f xs)) → IsTrue (list_any q xs)
any_map p q f h [] t = t
any_map p q f h (x ∷ xs) t = or_from (p (f x)) (list_any p (map f xs)) (q x) (list_any q xs) (h x) (any_map p q f h xs) t

pub all_map : {A : Type 0} (p q : A → Bool) (f : A → A) → ((x : A) → IsTrue (q x) → IsTrue (p (f x))) → (xs : List A) → IsTrue (list_all q xs) → IsTrue (list_all p (map f xs))
all_map p q f h [] t = t
all_map p q f h (x ∷ xs) t = and_from (q x) (list_all q xs) (p (f x)) (list_all p (map f xs)) (h x) (all_map p q f h xs) t

pub none_map : {A : Type 0} (p : A → Bool) (f : A → A) → ((x : A) → p (f x) ≡ false) → (xs : List A) → list_any p (map f xs) ≡ false
none_map p f h [] = refl
none_map p f h (x ∷ xs) = rw (h x) (none_map p f h xs)

pub each_map : {A : Type 0} (p : A → Bool) (f : A → A) → ((x : A) → IsTrue (p (f x))) → (xs : List A) → IsTrue (list_all p (map f xs))
each_map p f h [] = refl
each_map p f h (x ∷ xs) = rw (h x) (each_map p f h xs)

-- every line of every section
abbrev pub every_line : (Bool → Bool) → Section → Bool
every_line test s = list_all test (line_marks s)

pub every_section : (test : Bool → Bool) (ss : List Section) → list_all test (flat_map line_marks ss) ≡ list_all (every_line test) ss
every_section test [] = refl
every_section test (s ∷ ss) = list_all-append test (line_marks s) (flat_map line_marks ss) ∙ ap (λ b. every_line test s && b) (every_section test ss)

abbrev pub is_on : Bool → Bool
is_on b = b

-- coherence, section by section
pub record Fits (mode : FileMode) (ss : List Section) : Type 0 where
  pub on : IsTrue (list_any is_checked_deletion ss) → IsTrue (list_all (every_line is_on) ss)
  pub off : IsTrue (is_absent mode) → IsTrue (list_any is_unchecked_creation ss) → IsTrue (list_all (every_line not) ss)

abbrev pub FitsFile : File → Type 0
FitsFile file = Fits file.file_mode file.sections

pub fits_from : (file : File) → IsCoherent file → FitsFile file
fits_from file h = record {
  on = λ t. rw (← every_section is_on file.sections) (h.deletion t);
  off = λ a t. rw (← every_section not file.sections) (h.creation a t);
}

pub coherent_from : (file : File) → FitsFile file → IsCoherent file
coherent_from file h = record {
  deletion = λ t. rw (every_section is_on file.sections) (h.on t);
  creation = λ a t. rw (every_section not file.sections) (h.off a t);
}

-- what each half of a repair makes of a section
pub deletion_gone : (s : Section) → is_checked_deletion (with_deletion_unchecked s) ≡ false
deletion_gone (sections.Unchanged lines) = refl
deletion_gone (sections.Changed lines) = refl
deletion_gone (sections.FileMode true (modes.Unix bits)) = refl
deletion_gone (sections.FileMode false (modes.Unix bits)) = refl
deletion_gone (sections.FileMode c modes.Absent) = refl
deletion_gone (sections.Binary c old new) = refl

pub creation_checked : (s : Section) → is_unchecked_creation (with_mode_checked s) ≡ false
creation_checked (sections.Unchanged lines) = refl
creation_checked (sections.Changed lines) = refl
creation_checked (sections.FileMode c m) = refl
creation_checked (sections.Binary c old new) = refl

pub deletion_before : (s : Section) → IsTrue (is_checked_deletion (with_mode_checked s)) → IsTrue (is_deletion s)
deletion_before (sections.Unchanged lines) h = h
deletion_before (sections.Changed lines) h = h
deletion_before (sections.FileMode c m) h = h
deletion_before (sections.Binary c old new) h = h
