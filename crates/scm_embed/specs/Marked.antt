-- The marks of a file that are handed in as bytes: one for each item, in order.
use Rattle.std.specs.Prelude.{◌≡◌, ◌≢◌, ℕ, ◌==◌, Bool, true, false, List, [], ◌∷◌, length, drop, map, Option, Some, None, option_map, slice_get, if◌then◌else◌}
use Rattle.scm_types.specs.declared.file.File.{File}
use Rattle.scm_types.specs.declared.line.SectionChangedLine.{SectionChangedLine}
use Rattle.scm_types.specs.declared.section.Section.{Section}
use Rattle.scm_types.specs.declared.section.Section.TheVariants as sections
use Rattle.scm_types.specs.declared.state.RecordState.{RecordState}
use Rattle.scm_types.specs.Edits.{modify}
use Rattle.scm_types.specs.Marks.{file_marks, file_with_marks, section_marks}

-- ---- what the marks make of a state

-- whether the byte is the mark of a checked item
abbrev pub is_one : ℕ → Bool
is_one byte = byte == 1

-- the first mark, unchecked if there is none
abbrev pub first_mark : List ℕ → Bool
first_mark [] = false
first_mark (byte ∷ bytes) = is_one byte

-- the changed line with this mark
abbrev pub marked_line : Bool → SectionChangedLine → SectionChangedLine
marked_line mark line = record line { is_checked = mark }

-- the changed lines with the first ones of these marks
abbrev pub marked_lines : List ℕ → List SectionChangedLine → List SectionChangedLine
marked_lines bytes [] = []
marked_lines bytes (line ∷ lines) = marked_line (first_mark bytes) line ∷ marked_lines (drop 1 bytes) lines

-- the section with the first ones of these marks
abbrev pub marked_section : List ℕ → Section → Section
marked_section bytes (sections.Unchanged lines) = sections.Unchanged lines
marked_section bytes (sections.Changed lines) = sections.Changed (marked_lines bytes lines)
marked_section bytes (sections.FileMode is_checked mode) = sections.FileMode (first_mark bytes) mode
marked_section bytes (sections.Binary is_checked old new) = sections.Binary (first_mark bytes) old new

-- the sections with these marks, in order
abbrev pub marked_sections : List ℕ → List Section → List Section
marked_sections bytes [] = []
marked_sections bytes (section ∷ ss) =
    marked_section bytes section ∷ marked_sections (drop (length (section_marks section)) bytes) ss

-- the file with these marks
abbrev pub marked_file : List ℕ → File → File
marked_file bytes file = record file { sections = marked_sections bytes file.sections }

-- the state with these marks in file `i`
abbrev pub marked_state : ℕ → List ℕ → RecordState → RecordState
marked_state i bytes state = record state { files = modify (marked_file bytes) state.files i }

-- ---- whether they fit

-- whether there is a file, with as many items as there are marks
abbrev pub fits_file : List ℕ → Option File → Bool
fits_file bytes None = false
fits_file bytes (Some file) = length (file_marks file) == length bytes

-- whether the state has file `i`, with as many items as there are marks
abbrev pub fits_marks : ℕ → List ℕ → RecordState → Bool
fits_marks i bytes state = fits_file bytes (slice_get state.files i)

-- the state after the marks are set, which stays as it is if they do not fit
abbrev pub after_marks : ℕ → List ℕ → RecordState → RecordState
after_marks i bytes state = if fits_marks i bytes state then marked_state i bytes state else state

-- ---- what this means

-- the state with nothing checked: all of it but its marks
abbrev pub without_marks : RecordState → RecordState
without_marks state = record state { files = map (file_with_marks (λ _. false)) state.files }

-- The file has the marks that were handed in, each other file stays as it was, and nothing but marks changes.
pub record HasMarks (i : ℕ) (bytes : List ℕ) (old new : RecordState) : Type 0 where
  pub handed_in : option_map file_marks (slice_get new.files i) ≡ Some (map is_one bytes)
  pub others : (j : ℕ) → i ≢ j → slice_get new.files j ≡ slice_get old.files j
  pub rest : without_marks new ≡ without_marks old
