-- The repair of a file, after which its marks fit each other.
use Rattle.std.specs.Prelude.{◌≡◌, Bool, false, true, not, ◌&&◌, List, map, if◌then◌else◌}
use Rattle.std.specs.List.{list_any}
use Rattle.scm_types.specs.declared.file_mode.FileMode.{FileMode}
use Rattle.scm_types.specs.declared.section.Section.{Section}
use Rattle.scm_types.specs.declared.section.Section.TheVariants as sections
use Rattle.scm_types.specs.declared.file.File.{File}
use Rattle.scm_types.specs.Mode.{is_absent}
use Rattle.scm_types.specs.Same.{IsCoherent, line_marks}

-- the section, unchecked if it deletes the file
abbrev pub with_deletion_unchecked : Section → Section
with_deletion_unchecked (sections.Unchanged lines) = sections.Unchanged lines
with_deletion_unchecked (sections.Changed lines) = sections.Changed lines
with_deletion_unchecked (sections.FileMode is_checked mode) =
    sections.FileMode (if is_absent mode then false else is_checked) mode
with_deletion_unchecked (sections.Binary is_checked old new) = sections.Binary is_checked old new

-- the section, checked if it changes the mode
abbrev pub with_mode_checked : Section → Section
with_mode_checked (sections.Unchanged lines) = sections.Unchanged lines
with_mode_checked (sections.Changed lines) = sections.Changed lines
with_mode_checked (sections.FileMode is_checked mode) = sections.FileMode true mode
with_mode_checked (sections.Binary is_checked old new) = sections.Binary is_checked old new

-- whether the mark of some changed line passes the test
abbrev pub some_line : (Bool → Bool) → List Section → Bool
some_line test list = list_any (λ s. list_any test (line_marks s)) list

-- first step: if some changed line is unchecked, all deletions are unchecked
abbrev pub without_deletion : List Section → List Section
without_deletion list = if some_line not list then map with_deletion_unchecked list else list

-- second step: if the file is new and some changed line is checked, all mode changes are checked
abbrev pub with_creation : FileMode → List Section → List Section
with_creation mode list = if is_absent mode && some_line (λ b. b) list then map with_mode_checked list else list

-- the file after `repair`: both steps, in this order
abbrev pub file_after_repair : File → File
file_after_repair file = record file { sections = with_creation file.file_mode (without_deletion file.sections) }

-- whether the section deletes the file, checked or not
abbrev pub is_deletion : Section → Bool
is_deletion (sections.Unchanged lines) = false
is_deletion (sections.Changed lines) = false
is_deletion (sections.FileMode is_checked mode) = is_absent mode
is_deletion (sections.Binary is_checked old new) = false

-- whether the file is new and also has a deletion
abbrev pub is_new_and_deleted : File → Bool
is_new_and_deleted file = is_absent file.file_mode && list_any is_deletion file.sections

-- a repair makes the file coherent, and does not change a coherent file
pub record RepairMakesCoherent (file : File) : Type 0 where
  pub coherent : IsCoherent (file_after_repair file)
  pub unchanged : IsCoherent file → file_after_repair file ≡ file
