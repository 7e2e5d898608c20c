-- A toggle keeps a file coherent, unless it is new and also deleted.
use Rattle.std.proofs.Common.{◌≡◌, ◌⊎◌, inl, inr, ℕ, zero, suc, Bool, true, false, not, ◌&&◌, List, [], ◌∷◌, map, refl, ap, sym, ◌∙◌, Option, Some, None}
use Rattle.std.specs.Prelude.{slice_get, IsTrue, option_and_then, option_map}
use Rattle.std.specs.List.{list_any, list_all}
use Rattle.std.proofs.lemmas.List.Folds.{list_all-map}
use Rattle.std.proofs.lemmas.Option.{slice_get-map}
use Rattle.scm_types.specs.declared.line.SectionChangedLine.{SectionChangedLine}
use Rattle.scm_types.specs.declared.file_mode.FileMode.{FileMode}
use Rattle.scm_types.specs.declared.file_mode.FileMode.TheVariants as modes
use Rattle.scm_types.specs.declared.section.Section.{Section}
use Rattle.scm_types.specs.declared.section.Section.TheVariants as sections
use Rattle.scm_types.specs.declared.file.File.{File}
use Rattle.scm_types.specs.Marks.{file_with_marks, line_with_mark, section_with_marks, section_marks, file_marks, tristate_of}
use Rattle.scm_types.specs.Mode.{is_absent}
use Rattle.scm_types.specs.Same.{is_checked_deletion, is_unchecked_creation}
use Rattle.scm_types.specs.declared.keys.SelectionKey.{SelectionKey}
use Rattle.scm_types.specs.declared.keys.SelectionKey.TheVariants as keys
use Rattle.scm_types.specs.Edits.{modify}
use Rattle.scm_selection.specs.Toggle.{with_all_inverted, with_file_inverted, with_all_set, after_lines, after_mode, after_section, line_mark, mark_after, with_changed_set, with_file_toggled, with_key_toggled, with_line_inverted, with_line_toggled, with_section_toggled, with_this_line_toggled, with_this_section_toggled}
use Rattle.scm_types.specs.Repair.{is_deletion, is_new_and_deleted, with_deletion_unchecked, with_mode_checked}
use Rattle.scm_types.proofs.FitLemmas.{or_from, and_from, any_map, all_map, none_map, each_map, every_line, is_on, Fits, FitsFile, fits_from, coherent_from, deletion_gone, creation_checked, deletion_before}
use Rattle.scm_types.proofs.RepairLemmas.{repaired_fits}
use Rattle.scm_selection.specs.Coherence.{KeepsCoherent}

-- tests of a list in which one element is changed
any_modify : {A : Type 0} (p : A → Bool) (f : A → A) (xs : List A) (i : ℕ) (x : A) → slice_get xs i ≡ Some x → (IsTrue (p (f x)) → IsTrue (p x)) → IsTrue (list_any p (modify f xs i)) → IsTrue (list_any p xs)
any_modify p f [] i x e h t = t
any_modify p f (y ∷ ys) zero x e h t =
    let same : y ≡ x = cc in
    or_from (p (f y)) (list_any p ys) (p y) (list_any p ys) (rw same h) (λ r. r) t
any_modify p f (y ∷ ys) (suc i) x e h t =
    or_from (p y) (list_any p (modify f ys i)) (p y) (list_any p ys) (λ r. r) (any_modify p f ys i x e h) t

all_modify : {A : Type 0} (p : A → Bool) (f : A → A) (xs : List A) (i : ℕ) (x : A) → slice_get xs i ≡ Some x → (IsTrue (p x) → IsTrue (p (f x))) → IsTrue (list_all p xs) → IsTrue (list_all p (modify f xs i))
all_modify p f [] i x e h t = t
all_modify p f (y ∷ ys) zero x e h t =
    let same : y ≡ x = cc in
    and_from (p y) (list_all p ys) (p (f y)) (list_all p ys) (rw same h) (λ r. r) t
all_modify p f (y ∷ ys) (suc i) x e h t =
    and_from (p y) (list_all p ys) (p y) (list_all p (modify f ys i)) (λ r. r) (all_modify p f ys i x e h) t

any_at : {A : Type 0} (p : A → Bool) (xs : List A) (i : ℕ) (x : A) → slice_get xs i ≡ Some x → IsTrue (p x) → IsTrue (list_any p xs)
any_at p [] i x e h = cc
any_at p (y ∷ ys) zero x e h = let same : y ≡ x = cc in rw (same, h) refl
any_at p (y ∷ ys) (suc i) x e h = or_from false (list_any p ys) (p y) (list_any p ys) (λ r. cc) (λ r. r) (any_at p ys i x e h)

-- what each effect makes of a section
lines_set : (b : Bool) (test : Bool → Bool) → IsTrue (test b) → (lines : List SectionChangedLine) → IsTrue (list_all test (map (λ (l : SectionChangedLine). l.is_checked) (map (line_with_mark (λ _. b)) lines)))
lines_set b test h [] = refl
lines_set b test h (l ∷ ls) = rw h (lines_set b test h ls)

section_set : (b : Bool) (test : Bool → Bool) → IsTrue (test b) → (s : Section) → IsTrue (every_line test (section_with_marks (λ _. b) s))
section_set b test h (sections.Unchanged lines) = refl
section_set b test h (sections.Changed lines) = lines_set b test h lines
section_set b test h (sections.FileMode c m) = refl
section_set b test h (sections.Binary c old new) = refl

changed_checked : (s : Section) → IsTrue (every_line is_on (with_changed_set true s))
changed_checked (sections.Unchanged lines) = refl
changed_checked (sections.Changed lines) = lines_set true is_on refl lines
changed_checked (sections.FileMode c m) = refl
changed_checked (sections.Binary c old new) = refl

no_checked_deletion : (s : Section) → is_checked_deletion (section_with_marks (λ _. false) s) ≡ false
no_checked_deletion (sections.Unchanged lines) = refl
no_checked_deletion (sections.Changed lines) = refl
no_checked_deletion (sections.FileMode c m) = refl
no_checked_deletion (sections.Binary c old new) = refl

no_unchecked_creation : (s : Section) → is_unchecked_creation (section_with_marks (λ _. true) s) ≡ false
no_unchecked_creation (sections.Unchanged lines) = refl
no_unchecked_creation (sections.Changed lines) = refl
no_unchecked_creation (sections.FileMode c m) = refl
no_unchecked_creation (sections.Binary c old new) = refl

creation_before : (s : Section) → IsTrue (is_unchecked_creation (with_deletion_unchecked s)) → IsTrue (is_unchecked_creation s)
creation_before (sections.Unchanged lines) h = h
creation_before (sections.Changed lines) h = h
creation_before (sections.FileMode c (modes.Unix bits)) h = h
creation_before (sections.FileMode c modes.Absent) h = cc
creation_before (sections.Binary c old new) h = h

lines_stay : (test : Bool → Bool) (s : Section) → IsTrue (every_line test s) → IsTrue (every_line test (with_deletion_unchecked s))
lines_stay test (sections.Unchanged lines) h = h
lines_stay test (sections.Changed lines) h = h
lines_stay test (sections.FileMode c m) h = h
lines_stay test (sections.Binary c old new) h = h

-- a whole file is set
set_fits : (mode : FileMode) (b : Bool) (ss : List Section) → Fits mode (map (section_with_marks (λ _. b)) ss)
set_fits mode true ss = record {
  on = λ t. each_map (every_line is_on) (section_with_marks (λ _. true)) (section_set true is_on refl) ss;
  off = λ a t. let none = none_map is_unchecked_creation (section_with_marks (λ _. true)) no_unchecked_creation ss in cc;
}
set_fits mode false ss = record {
  on = λ t. let none = none_map is_checked_deletion (section_with_marks (λ _. false)) no_checked_deletion ss in cc;
  off = λ a t. each_map (every_line not) (section_with_marks (λ _. false)) (section_set false not refl) ss;
}

-- a section is changed, and nothing follows
module _ (ss : List Section) (i : ℕ) (s : Section) (f : Section → Section) (at : slice_get ss i ≡ Some s) where
  on_stays : (mode : FileMode) → (IsTrue (is_checked_deletion (f s)) → IsTrue (is_checked_deletion s)) → (IsTrue (every_line is_on s) → IsTrue (every_line is_on (f s))) → Fits mode ss → IsTrue (list_any is_checked_deletion (modify f ss i)) → IsTrue (list_all (every_line is_on) (modify f ss i))
  on_stays mode deletion lines h t =
      all_modify (every_line is_on) f ss i s at lines (h.on (any_modify is_checked_deletion f ss i s at deletion t))

  off_stays : (mode : FileMode) → (IsTrue (is_unchecked_creation (f s)) → IsTrue (is_unchecked_creation s)) → (IsTrue (every_line not s) → IsTrue (every_line not (f s))) → Fits mode ss → IsTrue (is_absent mode) → IsTrue (list_any is_unchecked_creation (modify f ss i)) → IsTrue (list_all (every_line not) (modify f ss i))
  off_stays mode creation lines h a t =
      all_modify (every_line not) f ss i s at lines (h.off a (any_modify is_unchecked_creation f ss i s at creation t))

-- changed lines are set or inverted, with what follows
module _ (ss : List Section) (i : ℕ) (lines new : List SectionChangedLine) (f : Section → Section) (at : slice_get ss i ≡ Some (sections.Changed lines)) (made : f (sections.Changed lines) ≡ sections.Changed new) where
  lines_off_fit : (mode : FileMode) → (IsTrue (every_line not (sections.Changed lines)) → IsTrue (every_line not (sections.Changed new))) → Fits mode ss → Fits mode (after_lines mode false (modify f ss i))
  lines_off_fit mode kept h = record {
    on = λ t. let none = none_map is_checked_deletion with_deletion_unchecked deletion_gone (modify f ss i) in cc;
    off = λ a t.
        all_map (every_line not) (every_line not) with_deletion_unchecked (lines_stay not) (modify f ss i)
        (off_stays ss i (sections.Changed lines) f at mode (λ u. rw made at u) (λ u. rw made (kept u)) h a
        (any_map is_unchecked_creation is_unchecked_creation with_deletion_unchecked creation_before (modify f ss i) t));
  }

  lines_on_fit : (mode : FileMode) → (IsTrue (every_line is_on (sections.Changed lines)) → IsTrue (every_line is_on (sections.Changed new))) → (is_absent mode && list_any is_deletion ss) ≡ false → Fits mode ss → Fits mode (after_lines mode true (modify f ss i))
  lines_on_fit (modes.Unix bits) kept pure h = record {
    on = on_stays ss i (sections.Changed lines) f at (modes.Unix bits) (λ u. rw made at u) (λ u. rw made (kept u)) h;
    off = λ a t. cc;
  }
  lines_on_fit modes.Absent kept pure h = record {
    on = λ t.
        let deleted = any_modify is_deletion f ss i (sections.Changed lines) at (λ u. rw made at u) (any_map is_checked_deletion is_deletion with_mode_checked deletion_before (modify f ss i) t) in cc;
    off = λ a t. let none = none_map is_unchecked_creation with_mode_checked creation_checked (modify f ss i) in cc;
  }

-- a change of the mode is set, with what follows
module _ (ss : List Section) (i : ℕ) (c : Bool) where
  mode_on_fit : (mode new_mode : FileMode) → slice_get ss i ≡ Some (sections.FileMode c new_mode) → (is_absent mode && list_any is_deletion ss) ≡ false → Fits mode ss → Fits mode (after_mode mode new_mode true (modify (section_with_marks (λ _. true)) ss i))
  mode_on_fit mode (modes.Unix bits) at pure h = record {
    on = on_stays ss i (sections.FileMode c (modes.Unix bits)) (section_with_marks (λ _. true)) at mode (λ u. cc) (λ u. u) h;
    off = off_stays ss i (sections.FileMode c (modes.Unix bits)) (section_with_marks (λ _. true)) at mode (λ u. cc) (λ u. u) h;
  }
  mode_on_fit mode modes.Absent at pure h = record {
    on = λ t. each_map (every_line is_on) (with_changed_set true) changed_checked (modify (section_with_marks (λ _. true)) ss i);
    off = λ a t.
        let deleted = any_at is_deletion ss i (sections.FileMode c modes.Absent) at refl in
        let both : (is_absent mode && list_any is_deletion ss) ≡ true = rw (a, deleted) refl in cc;
  }

  mode_off_fit : (mode new_mode : FileMode) → slice_get ss i ≡ Some (sections.FileMode c new_mode) → Fits mode ss → Fits mode (after_mode mode new_mode false (modify (section_with_marks (λ _. false)) ss i))
  mode_off_fit (modes.Unix bits) new_mode at h = record {
    on = on_stays ss i (sections.FileMode c new_mode) (section_with_marks (λ _. false)) at (modes.Unix bits) (λ u. cc) (λ u. u) h;
    off = λ a t. cc;
  }
  mode_off_fit modes.Absent new_mode at h = set_fits modes.Absent false (modify (section_with_marks (λ _. false)) ss i)

-- a section is set to a mark
section_set_fits : (mode : FileMode) (ss : List Section) (i : ℕ) (s : Section) → slice_get ss i ≡ Some s → (is_absent mode && list_any is_deletion ss) ≡ false → Fits mode ss → (b : Bool) → Fits mode (after_section mode b s (modify (section_with_marks (λ _. b)) ss i))
section_set_fits mode ss i (sections.Unchanged lines) at pure h b = record {
  on = on_stays ss i (sections.Unchanged lines) (section_with_marks (λ _. b)) at mode (λ u. u) (λ u. u) h;
  off = off_stays ss i (sections.Unchanged lines) (section_with_marks (λ _. b)) at mode (λ u. u) (λ u. u) h;
}
section_set_fits mode ss i (sections.Changed lines) at pure h true =
    lines_on_fit ss i lines _ (section_with_marks (λ _. true)) at refl mode (λ u. lines_set true is_on refl lines) pure h
section_set_fits mode ss i (sections.Changed lines) at pure h false =
    lines_off_fit ss i lines _ (section_with_marks (λ _. false)) at refl mode (λ u. lines_set false not refl lines) h
section_set_fits mode ss i (sections.FileMode c m) at pure h true = mode_on_fit ss i c mode m at pure h
section_set_fits mode ss i (sections.FileMode c m) at pure h false = mode_off_fit ss i c mode m at h
section_set_fits mode ss i (sections.Binary c old new) at pure h b = record {
  on = on_stays ss i (sections.Binary c old new) (section_with_marks (λ _. b)) at mode (λ u. u) (λ u. u) h;
  off = off_stays ss i (sections.Binary c old new) (section_with_marks (λ _. b)) at mode (λ u. u) (λ u. u) h;
}

section_fits : (file : File) (i : ℕ) (o : Option Section) → slice_get file.sections i ≡ o → is_new_and_deleted file ≡ false → FitsFile file → FitsFile (with_this_section_toggled file i o)
section_fits file i None at pure h = h
section_fits file i (Some s) at pure h =
    section_set_fits file.file_mode file.sections i s at pure h (mark_after (tristate_of (section_marks s)))

-- a line is inverted
marks_of_lines : (test : Bool → Bool) (lines : List SectionChangedLine) → every_line test (sections.Changed lines) ≡ list_all (λ (l : SectionChangedLine). test l.is_checked) lines
marks_of_lines test lines = list_all-map test (λ (l : SectionChangedLine). l.is_checked) lines

inverted_stay : (test : Bool → Bool) (lines : List SectionChangedLine) (line : ℕ) (l : SectionChangedLine) → slice_get lines line ≡ Some l → IsTrue (test (not l.is_checked)) → IsTrue (every_line test (sections.Changed lines)) → IsTrue (every_line test (sections.Changed (modify (line_with_mark not) lines line)))
inverted_stay test lines line l at t h =
    marks_of_lines test (modify (line_with_mark not) lines line)
    ∙ all_modify (λ (x : SectionChangedLine). test x.is_checked) (line_with_mark not) lines line l at (λ _. t) (sym (marks_of_lines test lines) ∙ h)

inverted_fits : (mode : FileMode) (ss : List Section) (i line : ℕ) (lines : List SectionChangedLine) (l : SectionChangedLine) → slice_get ss i ≡ Some (sections.Changed lines) → slice_get lines line ≡ Some l → (is_absent mode && list_any is_deletion ss) ≡ false → Fits mode ss → (b : Bool) → l.is_checked ≡ b → Fits mode (after_lines mode (not b) (modify (with_line_inverted line) ss i))
inverted_fits mode ss i line lines l at line_at pure h true is =
    lines_off_fit ss i lines _ (with_line_inverted line) at refl mode (inverted_stay not lines line l line_at (rw is refl)) h
inverted_fits mode ss i line lines l at line_at pure h false is =
    lines_on_fit ss i lines _ (with_line_inverted line) at refl mode (inverted_stay is_on lines line l line_at (rw is refl)) pure h

line_fits-in : (file : File) (i line : ℕ) (lines : List SectionChangedLine) (l : Option SectionChangedLine) → slice_get file.sections i ≡ Some (sections.Changed lines) → slice_get lines line ≡ l → is_new_and_deleted file ≡ false → FitsFile file → FitsFile (with_this_line_toggled file i line (option_map (λ (l : SectionChangedLine). l.is_checked) l))
line_fits-in file i line lines None at line_at pure h = h
line_fits-in file i line lines (Some l) at line_at pure h =
    inverted_fits file.file_mode file.sections i line lines l at line_at pure h l.is_checked refl

line_fits : (file : File) (i line : ℕ) (o : Option Section) → slice_get file.sections i ≡ o → is_new_and_deleted file ≡ false → FitsFile file → FitsFile (with_this_line_toggled file i line (option_and_then (line_mark line) o))
line_fits file i line None at pure h = h
line_fits file i line (Some (sections.Unchanged lines)) at pure h = h
line_fits file i line (Some (sections.Changed lines)) at pure h = line_fits-in file i line lines (slice_get lines line) at refl pure h
line_fits file i line (Some (sections.FileMode c m)) at pure h = h
line_fits file i line (Some (sections.Binary c old new)) at pure h = h

-- one file of a list is changed
modify_at : {A : Type 0} (f : A → A) (xs : List A) (k i : ℕ) (x y : A) → slice_get xs i ≡ Some x → slice_get (modify f xs k) i ≡ Some y → (y ≡ f x) ⊎ (y ≡ x)
modify_at f [] k i x y e d = inr cc
modify_at f (z ∷ zs) zero zero x y e d = let same : z ≡ x = cc in let new : f z ≡ y = cc in inl (sym new ∙ ap f same)
modify_at f (z ∷ zs) zero (suc i) x y e d = inr cc
modify_at f (z ∷ zs) (suc k) zero x y e d = inr cc
modify_at f (z ∷ zs) (suc k) (suc i) x y e d = modify_at f zs k i x y e d

file_keeps : (f : File → File) → ((file : File) → is_new_and_deleted file ≡ false → FitsFile file → FitsFile (f file)) → (files : List File) (k : ℕ) → KeepsCoherent files (modify f files k)
file_keeps f fits files k i before after e d pure h =
    elim (modify_at f files k i before after e d) [
      | inl changed ↦ rw changed (coherent_from (f before) (fits before pure (fits_from before h)))
      | inr same ↦ rw same h
    ]

pub toggle_keeps_coherent : (files : List File) (key : SelectionKey) → KeepsCoherent files (with_key_toggled key files)
toggle_keeps_coherent files keys.None = λ i before after e d pure h. let same : after ≡ before = cc in rw same h
toggle_keeps_coherent files (keys.File key) =
    file_keeps with_file_toggled (λ file pure h. set_fits file.file_mode (mark_after (tristate_of (file_marks file))) file.sections) files key.file_idx
toggle_keeps_coherent files (keys.Section key) =
    file_keeps (with_section_toggled key.section_idx) (λ file pure h. section_fits file key.section_idx (slice_get file.sections key.section_idx) refl pure h) files key.file_idx
toggle_keeps_coherent files (keys.Line key) =
    file_keeps (with_line_toggled key.section_idx key.line_idx) (λ file pure h. line_fits file key.section_idx key.line_idx (slice_get file.sections key.section_idx) refl pure h) files key.file_idx

-- without a change
pub keeps_coherent-same : (files : List File) → KeepsCoherent files files
keeps_coherent-same files i before after e d pure h = let same : after ≡ before = cc in rw same h

-- every file is set to one mark
pub marked_keeps_coherent : (checked : Bool) (files : List File) → KeepsCoherent files (map (file_with_marks (λ _. checked)) files)
marked_keeps_coherent checked files i before after e d pure h =
    let f = file_with_marks (λ _. checked) in
    let made : option_map f (Some before) ≡ Some after = sym (ap (option_map f) e) ∙ sym (slice_get-map f files i) ∙ d in
    let same : f before ≡ after = cc in
    rw (← same) (coherent_from (f before) (set_fits before.file_mode checked before.sections))

pub all_set_keeps_coherent : (files : List File) → KeepsCoherent files (with_all_set files)
all_set_keeps_coherent files = marked_keeps_coherent _ files

-- marks leave it whether a file is deleted
marks_keep-deletion : (f : Bool → Bool) (s : Section) → is_deletion (section_with_marks f s) ≡ is_deletion s
marks_keep-deletion f (sections.Unchanged lines) = refl
marks_keep-deletion f (sections.Changed lines) = refl
marks_keep-deletion f (sections.FileMode c m) = refl
marks_keep-deletion f (sections.Binary c old new) = refl

marks_keep-deletions : (f : Bool → Bool) (ss : List Section) → list_any is_deletion (map (section_with_marks f) ss) ≡ list_any is_deletion ss
marks_keep-deletions f [] = refl
marks_keep-deletions f (s ∷ ss) = rw (marks_keep-deletion f s, marks_keep-deletions f ss) refl

pub all_inverted_keeps_coherent : (files : List File) → KeepsCoherent files (with_all_inverted files)
all_inverted_keeps_coherent files i before after e d pure h =
    let made : option_map with_file_inverted (Some before) ≡ Some after = sym (ap (option_map with_file_inverted) e) ∙ sym (slice_get-map with_file_inverted files i) ∙ d in
    let same : with_file_inverted before ≡ after = cc in
    let still : is_new_and_deleted (file_with_marks not before) ≡ false = ap (λ b. is_absent before.file_mode && b) (marks_keep-deletions not before.sections) ∙ pure in
    rw (← same) (coherent_from (with_file_inverted before) (repaired_fits (file_with_marks not before) still))
