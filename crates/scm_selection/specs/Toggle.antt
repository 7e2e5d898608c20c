-- The files after a toggle, with the marks that follow from it in the same file. Indexes count from 0.
use Rattle.std.specs.Prelude.{ℕ, Bool, true, false, not, List, [], ◌∷◌, map, slice_get, Option, Some, None, option_map, option_and_then, if◌then◌else◌}
use Rattle.std.specs.List.{list_all}
use Rattle.scm_types.specs.declared.line.SectionChangedLine.{SectionChangedLine}
use Rattle.scm_types.specs.declared.file_mode.FileMode.{FileMode}
use Rattle.scm_types.specs.declared.section.Section.{Section}
use Rattle.scm_types.specs.declared.section.Section.TheVariants as sections
use Rattle.scm_types.specs.declared.file.File.{File}
use Rattle.scm_types.specs.declared.tristate.Tristate.{Tristate}
use Rattle.scm_types.specs.declared.tristate.Tristate.TheVariants as tristates
use Rattle.scm_types.specs.Marks.{file_marks, section_marks, tristate_of, line_with_mark, section_with_marks, file_with_marks}
use Rattle.scm_types.specs.Edits.{modify}
use Rattle.scm_types.specs.Mode.{is_absent}
use Rattle.scm_types.specs.Repair.{file_after_repair, with_deletion_unchecked, with_mode_checked}
use Rattle.scm_types.specs.declared.keys.SelectionKey.{SelectionKey}
use Rattle.scm_types.specs.declared.keys.SelectionKey.TheVariants as keys

-- the mark after a toggle: checked if nothing was checked before, else unchecked
abbrev pub mark_after : Tristate → Bool
mark_after tristates.False = true
mark_after tristates.Partial = false
mark_after tristates.True = false

-- the section with every line set to `checked`, if it has changed lines
abbrev pub with_changed_set : Bool → Section → Section
with_changed_set checked (sections.Unchanged lines) = sections.Unchanged lines
with_changed_set checked (sections.Changed lines) = section_with_marks (λ _. checked) (sections.Changed lines)
with_changed_set checked (sections.FileMode is_checked mode) = sections.FileMode is_checked mode
with_changed_set checked (sections.Binary is_checked old new) = sections.Binary is_checked old new

-- the sections after changed lines were set: unchecking one unchecks a deletion, checking one in a new file checks its creation
abbrev pub after_lines : FileMode → Bool → List Section → List Section
after_lines mode false list = map with_deletion_unchecked list
after_lines mode true list = if is_absent mode then map with_mode_checked list else list

-- the sections after a mode change was set: checking a deletion checks every changed line,
-- unchecking the creation of a new file unchecks everything
abbrev pub after_mode : FileMode → FileMode → Bool → List Section → List Section
after_mode mode new_mode true list = if is_absent new_mode then map (with_changed_set true) list else list
after_mode mode new_mode false list = if is_absent mode then map (section_with_marks (λ _. false)) list else list

-- the sections after a section of this kind was set
abbrev pub after_section : FileMode → Bool → Section → List Section → List Section
after_section mode checked (sections.Unchanged lines) list = list
after_section mode checked (sections.Changed lines) list = after_lines mode checked list
after_section mode checked (sections.FileMode is_checked new_mode) list = after_mode mode new_mode checked list
after_section mode checked (sections.Binary is_checked old new) list = list

-- the file after a toggle of the whole file
abbrev pub with_file_toggled : File → File
with_file_toggled file = file_with_marks (λ _. mark_after (tristate_of (file_marks file))) file

-- the file after section `index` was set to `checked`, with the marks that follow
abbrev pub with_section_set : File → ℕ → Section → Bool → File
with_section_set file index section checked =
    record file {
      sections = after_section file.file_mode checked section
          (modify (section_with_marks (λ _. checked)) file.sections index);
    }

-- the file after a toggle of section `index`, or as it is if there is no section
abbrev pub with_this_section_toggled : File → ℕ → Option Section → File
with_this_section_toggled file index None = file
with_this_section_toggled file index (Some section) =
    with_section_set file index section (mark_after (tristate_of (section_marks section)))

-- the file after a toggle of section `index`, if it has such a section
abbrev pub with_section_toggled : ℕ → File → File
with_section_toggled index file = with_this_section_toggled file index (slice_get file.sections index)

-- the section with line `line` inverted, if it has such a changed line
abbrev pub with_line_inverted : ℕ → Section → Section
with_line_inverted line (sections.Unchanged lines) = sections.Unchanged lines
with_line_inverted line (sections.Changed lines) = sections.Changed (modify (line_with_mark not) lines line)
with_line_inverted line (sections.FileMode is_checked mode) = sections.FileMode is_checked mode
with_line_inverted line (sections.Binary is_checked old new) = sections.Binary is_checked old new

-- the file with line `line` of section `section` inverted, if it has such a line; all other marks are as before
abbrev pub with_line_alone_inverted : ℕ → ℕ → File → File
with_line_alone_inverted section line file =
    record file { sections = modify (with_line_inverted line) file.sections section }

-- the mark of line `line` of a section, if it has such a changed line
abbrev pub line_mark : ℕ → Section → Option Bool
line_mark line (sections.Unchanged lines) = None
line_mark line (sections.Changed lines) = option_map (λ (l : SectionChangedLine). l.is_checked) (slice_get lines line)
line_mark line (sections.FileMode is_checked mode) = None
line_mark line (sections.Binary is_checked old new) = None

-- the file after a toggle of a line with the given mark, or as it is if there is no mark
abbrev pub with_this_line_toggled : File → ℕ → ℕ → Option Bool → File
with_this_line_toggled file section line None = file
with_this_line_toggled file section line (Some checked) =
    record file { sections = after_lines file.file_mode (not checked) (modify (with_line_inverted line) file.sections section) }

-- the file after a toggle of line `line` of section `section`, if it has such a line
abbrev pub with_line_toggled : ℕ → ℕ → File → File
with_line_toggled section line file =
    with_this_line_toggled file section line (option_and_then (line_mark line) (slice_get file.sections section))

-- the files after a toggle of what the key names, if it is there
abbrev pub with_key_toggled : SelectionKey → List File → List File
with_key_toggled keys.None files = files
with_key_toggled (keys.File key) files = modify with_file_toggled files key.file_idx
with_key_toggled (keys.Section key) files = modify (with_section_toggled key.section_idx) files key.file_idx
with_key_toggled (keys.Line key) files = modify (with_line_toggled key.section_idx key.line_idx) files key.file_idx

-- the file with each mark inverted, and then repaired
abbrev pub with_file_inverted : File → File
with_file_inverted file = file_after_repair (file_with_marks not file)

-- the files with each mark inverted, and then repaired
abbrev pub with_all_inverted : List File → List File
with_all_inverted files = map with_file_inverted files

-- whether the mark of a file is wholly checked
abbrev pub is_checked_by : Tristate → Bool
is_checked_by tristates.False = false
is_checked_by tristates.Partial = false
is_checked_by tristates.True = true

-- whether a file is wholly checked
abbrev pub is_checked_file : File → Bool
is_checked_file file = is_checked_by (tristate_of (file_marks file))

-- whether there are files and each is wholly checked
abbrev pub is_all_checked : List File → Bool
is_all_checked [] = false
is_all_checked (file ∷ files) = list_all is_checked_file (file ∷ files)

-- the files with everything unchecked if all was checked, else with everything checked
abbrev pub with_all_set : List File → List File
with_all_set files = map (file_with_marks (λ _. not (is_all_checked files))) files
