-- The counts of the sections and files of a state. All of them but the numbers of checked items stay as they are in a session.
use Rattle.std.specs.Prelude.{ℕ, ◌+◌, Bool, true, false, List, [], ◌∷◌, map, length, count_by, if◌then◌else◌}
use Rattle.scm_types.specs.declared.file.File.{File}
use Rattle.scm_types.specs.declared.section.Section.{Section}
use Rattle.scm_types.specs.declared.section.Section.TheVariants.{Unchanged, Changed, FileMode, Binary}
use Rattle.scm_types.specs.Marks.{checked_count, file_marks, is_editable_section, section_marks}
use Rattle.scm_rows.specs.Lines.{old_lines}
use Rattle.scm_layout.specs.declared.section_counts.SectionCounts.{SectionCounts}
use Rattle.scm_layout.specs.declared.file_counts.FileCounts.{FileCounts}
use Rattle.scm_layout.specs.declared.state_counts.StateCounts.{StateCounts}
use Rattle.scm_layout.specs.Marked.{changed_files, checked_lines}

-- the number of items of a section
abbrev pub items_in : Section → ℕ
items_in section = length (section_marks section)

-- the number of checked items of a section
abbrev pub checked_in : Section → ℕ
checked_in section = checked_count (section_marks section)

-- whether a section changes the mode, checked or not
abbrev pub is_mode : Section → Bool
is_mode (Unchanged lines) = false
is_mode (Changed lines) = false
is_mode (FileMode is_checked mode) = true
is_mode (Binary is_checked old new) = false

-- the number of sections that change the mode
abbrev pub modes_in : List Section → ℕ
modes_in sections = count_by is_mode sections

-- the number of editable sections up to the end of a section, if `editable` are before it
abbrev pub editable_after : ℕ → Section → ℕ
editable_after editable section = if is_editable_section section then editable + 1 else editable

-- the counts of a section, if `editable` editable sections and `lines` lines of the old file are before it in its file
abbrev pub section_counts : ℕ → ℕ → Section → SectionCounts
section_counts editable lines section = record {
  items = items_in section;
  checked = checked_in section;
  editable_before = editable;
  lines_before = lines;
}

-- the counts of the last sections of a file, if `editable` editable sections and `lines` lines of the old file are before them
unfoldable pub sections_counts : ℕ → ℕ → List Section → List SectionCounts
sections_counts editable lines [] = []
sections_counts editable lines (section ∷ more) =
    section_counts editable lines section
    ∷ sections_counts (editable_after editable section) (lines + old_lines section) more

-- the counts of a file
abbrev pub file_counts : File → FileCounts
file_counts file = record {
  editable = count_by is_editable_section file.sections;
  modes = modes_in file.sections;
  items = length (file_marks file);
  checked = checked_count (file_marks file);
  sections = sections_counts 0 0 file.sections;
}

-- the counts of the files of a state
abbrev pub counts_of : List File → StateCounts
counts_of files = record {
  files = map file_counts files;
  checked_lines = checked_lines files;
  changed_files = changed_files files;
}
