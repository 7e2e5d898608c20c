-- Changes of marks keep the number of marks of each section.
use Rattle.std.proofs.Common.{◌≡◌, ℕ, zero, suc, Bool, true, false, cond, ◌&&◌, List, [], ◌∷◌, map, length, refl, sym, ◌∙◌, Option, Some, None}
use Rattle.std.specs.Prelude.{not, slice_get, option_and_then}
use Rattle.std.proofs.lemmas.List.{length-map}
use Rattle.scm_types.specs.declared.line.SectionChangedLine.{SectionChangedLine}
use Rattle.scm_types.specs.declared.file.File.{File}
use Rattle.scm_types.specs.declared.file_mode.FileMode.{FileMode}
use Rattle.scm_types.specs.declared.section.Section.{Section}
use Rattle.scm_types.specs.declared.section.Section.TheVariants as sections
use Rattle.scm_types.specs.declared.keys.SelectionKey.{SelectionKey}
use Rattle.scm_types.specs.declared.keys.SelectionKey.TheVariants as keys
use Rattle.scm_types.specs.Edits.{modify}
use Rattle.scm_types.specs.Marks.{file_marks, file_with_marks, line_with_mark, section_marks, section_with_marks, tristate_of}
use Rattle.scm_types.specs.Mode.{is_absent}
use Rattle.scm_types.specs.Repair.{some_line, with_creation, with_deletion_unchecked, with_mode_checked, without_deletion}
use Rattle.scm_types.proofs.EditLemmas.{length-modify}
use Rattle.scm_selection.specs.Toggle.{after_lines, after_mode, after_section, is_all_checked, line_mark, mark_after, with_all_inverted, with_all_set, with_changed_set, with_file_toggled, with_key_toggled, with_line_inverted, with_line_toggled, with_section_toggled, with_this_line_toggled, with_this_section_toggled}
use Rattle.scm_front_items.specs.Runs.{marks_of_files}
use Rattle.scm_front_items.specs.Targets.{after_deed, after_deeds, is_marked}
use Rattle.scm_front_items.specs.declared.targets.Deed.{Deed}
use Rattle.scm_front_items.specs.declared.targets.Deed.TheVariants.{Mark, Fold}
use Rattle.scm_selection.specs.KeysAround.{is_key_of}
use Rattle.scm_front_items.proofs.PlaceLemmas.{shape}

-- the number of marks of each section
abbrev sizes : List Section → List ℕ
sizes list = map (λ (s : List Bool). length s) (map section_marks list)

abbrev Keeps : (Section → Section) → Type 0
Keeps g = (s : Section) → length (section_marks (g s)) ≡ length (section_marks s)

sizes-map : (g : Section → Section) → Keeps g → (list : List Section) → sizes (map g list) ≡ sizes list
sizes-map g k [] = refl
sizes-map g k (s ∷ ss) = rw (k s, sizes-map g k ss) refl

sizes-modify : (g : Section → Section) → Keeps g → (list : List Section) (i : ℕ) → sizes (modify g list i) ≡ sizes list
sizes-modify g k [] i = refl
sizes-modify g k (s ∷ ss) zero = rw (k s) refl
sizes-modify g k (s ∷ ss) (suc i) = rw (sizes-modify g k ss i) refl

sizes-either : (b : Bool) (xs ys zs : List Section) → sizes xs ≡ sizes zs → sizes ys ≡ sizes zs → sizes (cond b xs ys) ≡ sizes zs
sizes-either true xs ys zs e f = e
sizes-either false xs ys zs e f = f

-- ---- a section

marks-keep : (f : Bool → Bool) → Keeps (section_with_marks f)
marks-keep f (sections.Unchanged lines) = refl
marks-keep f (sections.Changed lines) =
    length-map (map (line_with_mark f) lines) (λ (l : SectionChangedLine). l.is_checked) ∙ length-map lines (line_with_mark f)
    ∙ sym (length-map lines (λ (l : SectionChangedLine). l.is_checked))
marks-keep f (sections.FileMode is_checked mode) = refl
marks-keep f (sections.Binary is_checked old new) = refl

changed-keep : (checked : Bool) → Keeps (with_changed_set checked)
changed-keep checked (sections.Unchanged lines) = refl
changed-keep checked (sections.Changed lines) = marks-keep (λ _. checked) (sections.Changed lines)
changed-keep checked (sections.FileMode is_checked mode) = refl
changed-keep checked (sections.Binary is_checked old new) = refl

deletion-keeps : Keeps with_deletion_unchecked
deletion-keeps (sections.Unchanged lines) = refl
deletion-keeps (sections.Changed lines) = refl
deletion-keeps (sections.FileMode is_checked mode) = refl
deletion-keeps (sections.Binary is_checked old new) = refl

mode-keeps : Keeps with_mode_checked
mode-keeps (sections.Unchanged lines) = refl
mode-keeps (sections.Changed lines) = refl
mode-keeps (sections.FileMode is_checked mode) = refl
mode-keeps (sections.Binary is_checked old new) = refl

line-keeps : (line : ℕ) → Keeps (with_line_inverted line)
line-keeps line (sections.Unchanged lines) = refl
line-keeps line (sections.Changed lines) =
    length-map (modify (line_with_mark not) lines line) (λ (l : SectionChangedLine). l.is_checked) ∙ length-modify (line_with_mark not) lines line
    ∙ sym (length-map lines (λ (l : SectionChangedLine). l.is_checked))
line-keeps line (sections.FileMode is_checked mode) = refl
line-keeps line (sections.Binary is_checked old new) = refl

-- ---- what follows

lines-follow : (mode : FileMode) (checked : Bool) (list : List Section) → sizes (after_lines mode checked list) ≡ sizes list
lines-follow mode false list = sizes-map with_deletion_unchecked deletion-keeps list
lines-follow mode true list = sizes-either (is_absent mode) (map with_mode_checked list) list list (sizes-map with_mode_checked mode-keeps list) refl

mode-follows : (mode new_mode : FileMode) (checked : Bool) (list : List Section) → sizes (after_mode mode new_mode checked list) ≡ sizes list
mode-follows mode new_mode true list = sizes-either (is_absent new_mode) (map (with_changed_set true) list) list list (sizes-map (with_changed_set true) (changed-keep true) list) refl
mode-follows mode new_mode false list =
    sizes-either (is_absent mode) (map (section_with_marks (λ _. false)) list) list list (sizes-map (section_with_marks (λ _. false)) (marks-keep (λ _. false)) list) refl

section-follows : (mode : FileMode) (checked : Bool) (s : Section) (list : List Section) → sizes (after_section mode checked s list) ≡ sizes list
section-follows mode checked (sections.Unchanged lines) list = refl
section-follows mode checked (sections.Changed lines) list = lines-follow mode checked list
section-follows mode checked (sections.FileMode is_checked new_mode) list = mode-follows mode new_mode checked list
section-follows mode checked (sections.Binary is_checked old new) list = refl

-- ---- a file

abbrev KeepsFile : (File → File) → Type 0
KeepsFile g = (file : File) → sizes (g file).sections ≡ sizes file.sections

file-keeps : (f : Bool → Bool) → KeepsFile (file_with_marks f)
file-keeps f file = sizes-map (section_with_marks f) (marks-keep f) file.sections

toggled-keeps : KeepsFile with_file_toggled
toggled-keeps file = file-keeps (λ _. mark_after (tristate_of (file_marks file))) file

this-section-keeps : (file : File) (index : ℕ) (o : Option Section) → sizes (with_this_section_toggled file index o).sections ≡ sizes file.sections
this-section-keeps file index None = refl
this-section-keeps file index (Some s) =
    let checked = mark_after (tristate_of (section_marks s)) in
    section-follows file.file_mode checked s (modify (section_with_marks (λ _. checked)) file.sections index)
    ∙ sizes-modify (section_with_marks (λ _. checked)) (marks-keep (λ _. checked)) file.sections index

section-keeps : (index : ℕ) → KeepsFile (with_section_toggled index)
section-keeps index file = this-section-keeps file index (slice_get file.sections index)

this-line-keeps : (file : File) (section line : ℕ) (mark : Option Bool) → sizes (with_this_line_toggled file section line mark).sections ≡ sizes file.sections
this-line-keeps file section line None = refl
this-line-keeps file section line (Some checked) =
    lines-follow file.file_mode (not checked) (modify (with_line_inverted line) file.sections section)
    ∙ sizes-modify (with_line_inverted line) (line-keeps line) file.sections section

line-toggled-keeps : (section line : ℕ) → KeepsFile (with_line_toggled section line)
line-toggled-keeps section line file = this-line-keeps file section line (option_and_then (line_mark line) (slice_get file.sections section))

deletion-follows : (list : List Section) → sizes (without_deletion list) ≡ sizes list
deletion-follows list = sizes-either (some_line not list) (map with_deletion_unchecked list) list list (sizes-map with_deletion_unchecked deletion-keeps list) refl

creation-follows : (mode : FileMode) (list : List Section) → sizes (with_creation mode list) ≡ sizes list
creation-follows mode list =
    sizes-either (is_absent mode && some_line (λ b. b) list) (map with_mode_checked list) list list (sizes-map with_mode_checked mode-keeps list) refl

-- ---- files

files-modify : (g : File → File) → KeepsFile g → (files : List File) (i : ℕ) → shape (marks_of_files (modify g files i)) ≡ shape (marks_of_files files)
files-modify g k [] i = refl
files-modify g k (f ∷ fs) zero = rw (k f) refl
files-modify g k (f ∷ fs) (suc i) = rw (files-modify g k fs i) refl

files-map : (g : File → File) → KeepsFile g → (files : List File) → shape (marks_of_files (map g files)) ≡ shape (marks_of_files files)
files-map g k [] = refl
files-map g k (f ∷ fs) = rw (k f, files-map g k fs) refl

pub shape-toggled : (key : SelectionKey) (files : List File) → shape (marks_of_files (with_key_toggled key files)) ≡ shape (marks_of_files files)
shape-toggled keys.None files = refl
shape-toggled (keys.File key) files = files-modify with_file_toggled toggled-keeps files key.file_idx
shape-toggled (keys.Section key) files = files-modify (with_section_toggled key.section_idx) (section-keeps key.section_idx) files key.file_idx
shape-toggled (keys.Line key) files = files-modify (with_line_toggled key.section_idx key.line_idx) (line-toggled-keeps key.section_idx key.line_idx) files key.file_idx

pub shape-inverted : (files : List File) → shape (marks_of_files (with_all_inverted files)) ≡ shape (marks_of_files files)
shape-inverted files = files-map _ (λ file.
    creation-follows file.file_mode (without_deletion (map (section_with_marks not) file.sections))
    ∙ deletion-follows (map (section_with_marks not) file.sections) ∙ file-keeps not file) files

pub shape-set : (files : List File) → shape (marks_of_files (with_all_set files)) ≡ shape (marks_of_files files)
shape-set files = files-map _ (file-keeps (λ _. not (is_all_checked files))) files

-- files that are equal but for their marks
pub shape-bare : (files : List File) → shape (marks_of_files (map (file_with_marks (λ _. false)) files)) ≡ shape (marks_of_files files)
shape-bare files = files-map _ (file-keeps (λ _. false)) files

-- ---- deeds

either-shape : (b : Bool) (key : SelectionKey) (files : List File) → shape (marks_of_files (cond b (with_key_toggled key files) files)) ≡ shape (marks_of_files files)
either-shape true key files = shape-toggled key files
either-shape false key files = refl

shape-deed : (files : List File) (deed : Deed) → shape (marks_of_files (after_deed files deed)) ≡ shape (marks_of_files files)
shape-deed files (Mark t) = either-shape (is_key_of files t.key && not (is_marked files t)) t.key files
shape-deed files (Fold key) = refl

pub shape-deeds : (files : List File) (deeds : List Deed) → shape (marks_of_files (after_deeds files deeds)) ≡ shape (marks_of_files files)
shape-deeds files [] = refl
shape-deeds files (d ∷ ds) = shape-deeds (after_deed files d) ds ∙ shape-deed files d
