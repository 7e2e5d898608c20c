-- A toggle changes marks alone: without their marks, the files before and after it are the same.
use Rattle.std.proofs.Common.{◌≡◌, ℕ, Bool, true, false, not, List, [], ◌∷◌, ◌&&◌, ◌+◌, map, slice_get, Option, Some, None, cond, sym, ap, ◌∙◌, refl}
use Rattle.std.specs.Prelude.{option_and_then, count_by, sum_by}
use Rattle.scm_types.specs.declared.file_mode.FileMode.{FileMode}
use Rattle.scm_types.specs.declared.section.Section.{Section}
use Rattle.scm_types.specs.declared.section.Section.TheVariants as sections
use Rattle.scm_types.specs.declared.file.File.{File}
use Rattle.scm_types.specs.declared.keys.SelectionKey.{SelectionKey}
use Rattle.scm_types.specs.declared.keys.SelectionKey.TheVariants as keys
use Rattle.scm_types.specs.Limits.{section_size}
use Rattle.scm_types.specs.Marks.{file_marks, is_editable_section, section_marks, tristate_of, line_with_mark, section_with_marks, file_with_marks}
use Rattle.scm_types.specs.Mode.{is_absent}
use Rattle.scm_types.specs.Edits.{modify}
use Rattle.scm_types.specs.Repair.{with_deletion_unchecked, with_mode_checked, some_line, without_deletion, with_creation, file_after_repair}
use Rattle.scm_types.proofs.EditLemmas.{map-modify-same}
use Rattle.std.proofs.lemmas.List.{length-map}
use Rattle.std.proofs.lemmas.List.Sums.{sum_by-cons}
use Rattle.scm_selection.specs.Toggle.{mark_after, with_changed_set, after_lines, after_mode, after_section, with_file_toggled, with_section_set, with_this_section_toggled, with_section_toggled, with_line_inverted, line_mark, with_this_line_toggled, with_line_toggled, with_key_toggled, with_all_inverted, with_all_set}
use Rattle.scm_rows.specs.Lines.{is_removed, old_lines}
use Rattle.scm_layout.specs.Counts.{is_mode, items_in}

-- what a change leaves as it was under a view

map-hidden : {A B : Type 0} (g : A → B) (f : A → A) → ((x : A) → g (f x) ≡ g x) → (xs : List A) → map g (map f xs) ≡ map g xs
map-hidden g f h [] = refl
map-hidden g f h (x ∷ xs) = ap (λ y. y ∷ map g (map f xs)) (h x) ∙ ap (λ ys. g x ∷ ys) (map-hidden g f h xs)

cond-hidden : {A B : Type 0} (g : A → B) (b : Bool) (x y z : A) → g x ≡ g z → g y ≡ g z → g (cond b x y) ≡ g z
cond-hidden g true x y z e f = e
cond-hidden g false x y z e f = f

-- a section, sections and a file without their marks
abbrev pub bare_section : Section → Section
bare_section = section_with_marks (λ _. false)

abbrev pub bare : List Section → List Section
bare = map bare_section

abbrev pub bare_file : File → File
bare_file = file_with_marks (λ _. false)

marks-hidden : (f : Bool → Bool) (s : Section) → bare_section (section_with_marks f s) ≡ bare_section s
marks-hidden f (sections.Changed lines) =
    ap sections.Changed (map-hidden (line_with_mark (λ _. false)) (line_with_mark f) (λ l. refl) lines)
marks-hidden f _ = refl

changed-hidden : (checked : Bool) (s : Section) → bare_section (with_changed_set checked s) ≡ bare_section s
changed-hidden checked (sections.Changed lines) = marks-hidden (λ _. checked) (sections.Changed lines)
changed-hidden checked _ = refl

pub deletion-hidden : (s : Section) → bare_section (with_deletion_unchecked s) ≡ bare_section s
deletion-hidden (sections.Unchanged lines) = refl
deletion-hidden _ = refl

pub mode-hidden : (s : Section) → bare_section (with_mode_checked s) ≡ bare_section s
mode-hidden (sections.Unchanged lines) = refl
mode-hidden _ = refl

pub line-hidden : (line : ℕ) (s : Section) → bare_section (with_line_inverted line s) ≡ bare_section s
line-hidden line (sections.Changed lines) =
    ap sections.Changed (map-modify-same (line_with_mark (λ _. false)) (line_with_mark not) lines line (λ l. refl))
line-hidden line _ = refl

pub after_lines-hidden : (mode : FileMode) (checked : Bool) (list : List Section) → bare (after_lines mode checked list) ≡ bare list
after_lines-hidden mode false list = map-hidden bare_section with_deletion_unchecked deletion-hidden list
after_lines-hidden mode true list =
    cond-hidden bare (is_absent mode) (map with_mode_checked list) list list (map-hidden bare_section with_mode_checked mode-hidden list) refl

after_mode-hidden : (mode new_mode : FileMode) (checked : Bool) (list : List Section) → bare (after_mode mode new_mode checked list) ≡ bare list
after_mode-hidden mode new_mode true list =
    cond-hidden bare (is_absent new_mode) (map (with_changed_set true) list) list list (map-hidden bare_section (with_changed_set true) (changed-hidden true) list) refl
after_mode-hidden mode new_mode false list =
    cond-hidden bare (is_absent mode) (map (section_with_marks (λ _. false)) list) list list (map-hidden bare_section (section_with_marks (λ _. false)) (marks-hidden (λ _. false)) list) refl

after_section-hidden : (mode : FileMode) (checked : Bool) (s : Section) (list : List Section) → bare (after_section mode checked s list) ≡ bare list
after_section-hidden mode checked (sections.Changed lines) list = after_lines-hidden mode checked list
after_section-hidden mode checked (sections.FileMode is_checked new_mode) list = after_mode-hidden mode new_mode checked list
after_section-hidden mode checked _ list = refl

pub file-hidden : (file : File) → bare_file (with_file_toggled file) ≡ bare_file file
file-hidden file =
    let checked = mark_after (tristate_of (file_marks file)) in
    ap (λ (list : List Section). record file { sections = list }) (map-hidden bare_section (section_with_marks (λ _. checked)) (marks-hidden (λ _. checked)) file.sections)

section_set-hidden : (file : File) (index : ℕ) (s : Section) (checked : Bool) → bare_file (with_section_set file index s checked) ≡ bare_file file
section_set-hidden file index s checked =
    let set = modify (section_with_marks (λ _. checked)) file.sections index in
    ap (λ (list : List Section). record file { sections = list })
    (after_section-hidden file.file_mode checked s set ∙ map-modify-same bare_section (section_with_marks (λ _. checked)) file.sections index (marks-hidden (λ _. checked)))

this_section-hidden : (file : File) (index : ℕ) (s : Option Section) → bare_file (with_this_section_toggled file index s) ≡ bare_file file
this_section-hidden file index None = refl
this_section-hidden file index (Some s) = section_set-hidden file index s (mark_after (tristate_of (section_marks s)))

pub section-hidden : (index : ℕ) (file : File) → bare_file (with_section_toggled index file) ≡ bare_file file
section-hidden index file = this_section-hidden file index (slice_get file.sections index)

this_line-hidden : (file : File) (section line : ℕ) (mark : Option Bool) → bare_file (with_this_line_toggled file section line mark) ≡ bare_file file
this_line-hidden file section line None = refl
this_line-hidden file section line (Some checked) =
    let set = modify (with_line_inverted line) file.sections section in
    ap (λ (list : List Section). record file { sections = list })
    (after_lines-hidden file.file_mode (not checked) set ∙ map-modify-same bare_section (with_line_inverted line) file.sections section (line-hidden line))

pub file_line-hidden : (section line : ℕ) (file : File) → bare_file (with_line_toggled section line file) ≡ bare_file file
file_line-hidden section line file = this_line-hidden file section line (option_and_then (line_mark line) (slice_get file.sections section))

-- a toggle changes marks alone
pub toggle-hidden : (key : SelectionKey) (files : List File) → map bare_file (with_key_toggled key files) ≡ map bare_file files
toggle-hidden keys.None files = refl
toggle-hidden (keys.File key) files = map-modify-same bare_file with_file_toggled files key.file_idx file-hidden
toggle-hidden (keys.Section key) files = map-modify-same bare_file (with_section_toggled key.section_idx) files key.file_idx (section-hidden key.section_idx)
toggle-hidden (keys.Line key) files = map-modify-same bare_file (with_line_toggled key.section_idx key.line_idx) files key.file_idx (file_line-hidden key.section_idx key.line_idx)

-- each file with other marks
marked-hidden : (f : Bool → Bool) (files : List File) → map bare_file (map (file_with_marks f) files) ≡ map bare_file files
marked-hidden f files = map-hidden bare_file (file_with_marks f) (λ file. ap (λ (list : List Section). record file { sections = list }) (map-hidden bare_section (section_with_marks f) (marks-hidden f) file.sections)) files

pub all_set-hidden : (files : List File) → map bare_file (with_all_set files) ≡ map bare_file files
all_set-hidden files = marked-hidden _ files

without_deletion-hidden : (list : List Section) → bare (without_deletion list) ≡ bare list
without_deletion-hidden list =
    cond-hidden bare (some_line not list) (map with_deletion_unchecked list) list list (map-hidden bare_section with_deletion_unchecked deletion-hidden list) refl

with_creation-hidden : (mode : FileMode) (list : List Section) → bare (with_creation mode list) ≡ bare list
with_creation-hidden mode list =
    cond-hidden bare (is_absent mode && some_line (λ b. b) list) (map with_mode_checked list) list list (map-hidden bare_section with_mode_checked mode-hidden list) refl

-- a repair changes marks alone
repaired-hidden : (file : File) → bare_file (file_after_repair file) ≡ bare_file file
repaired-hidden file =
    ap (λ (list : List Section). record file { sections = list })
    (with_creation-hidden file.file_mode (without_deletion file.sections) ∙ without_deletion-hidden file.sections)

pub inverted-hidden : (files : List File) → map bare_file (with_all_inverted files) ≡ map bare_file files
inverted-hidden files =
    map-hidden bare_file (λ file. file_after_repair (file_with_marks not file))
    (λ file. repaired-hidden (file_with_marks not file) ∙ ap (λ (list : List Section). record file { sections = list }) (map-hidden bare_section (section_with_marks not) (marks-hidden not) file.sections)) files

-- ---- what sections have in common that are the same without their marks

pub sum-mapped : {A : Type 0} (n : A → ℕ) (v : A → A) → ((x : A) → n (v x) ≡ n x) → (xs : List A) → sum_by n (map v xs) ≡ sum_by n xs
sum-mapped n v same [] = refl
sum-mapped n v same (x ∷ xs) =
    sum_by-cons n (v x) (map v xs)
    ∙ ap (λ m. m + sum_by n (map v xs)) (same x)
    ∙ ap (λ m. n x + m) (sum-mapped n v same xs)
    ∙ sym (sum_by-cons n x xs)

count-mapped : {A : Type 0} (p : A → Bool) (v : A → A) → ((x : A) → p (v x) ≡ p x) → (xs : List A) → count_by p (map v xs) ≡ count_by p xs
count-mapped p v same xs = sum-mapped (λ y. cond (p y) 1 0) v (λ x. ap (λ b. cond b 1 0) (same x)) xs

pub items-bare : (s : Section) → items_in (bare_section s) ≡ items_in s
items-bare (sections.Changed lines) = simp length-map refl
items-bare _ = refl

old_lines-bare : (s : Section) → old_lines (bare_section s) ≡ old_lines s
old_lines-bare (sections.Changed lines) = count-mapped is_removed (line_with_mark (λ _. false)) (λ l. refl) lines
old_lines-bare _ = refl

pub size-bare : (s : Section) → section_size (bare_section s) ≡ section_size s
size-bare (sections.Changed lines) = length-map lines (line_with_mark (λ _. false))
size-bare _ = refl

pub editable-bare : (s : Section) → is_editable_section (bare_section s) ≡ is_editable_section s
editable-bare (sections.Unchanged lines) = refl
editable-bare _ = refl

mode-bare : (s : Section) → is_mode (bare_section s) ≡ is_mode s
mode-bare (sections.Unchanged lines) = refl
mode-bare _ = refl

module _ (ss ts : List Section) (e : bare ss ≡ bare ts) where
  count-same : (p : Section → Bool) → ((s : Section) → p (bare_section s) ≡ p s) → count_by p ss ≡ count_by p ts
  count-same p same = sym (count-mapped p bare_section same ss) ∙ ap (λ us. count_by p us) e ∙ count-mapped p bare_section same ts

  pub editables-same : count_by is_editable_section ss ≡ count_by is_editable_section ts
  editables-same = count-same is_editable_section editable-bare

  pub modes-same : count_by is_mode ss ≡ count_by is_mode ts
  modes-same = count-same is_mode mode-bare

module _ (s t : Section) (e : bare_section s ≡ bare_section t) where
  pub items-same : items_in s ≡ items_in t
  items-same = sym (items-bare s) ∙ ap (λ u. items_in u) e ∙ items-bare t

  pub old_lines-same : old_lines s ≡ old_lines t
  old_lines-same = sym (old_lines-bare s) ∙ ap (λ u. old_lines u) e ∙ old_lines-bare t

  pub editable-same : is_editable_section s ≡ is_editable_section t
  editable-same = sym (editable-bare s) ∙ ap (λ u. is_editable_section u) e ∙ editable-bare t
