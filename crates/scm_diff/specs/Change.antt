-- What the file of a change promises.
use Rattle.std.specs.Prelude.{◌≡◌, ℕ, ◌==◌, List, [], ◌∷◌, ◌++◌, Bool, true, false, Option, Some, None, map, filter, if◌then◌else◌}
use Rattle.scm_types.specs.declared.file_mode.FileMode.{FileMode}
use Rattle.scm_types.specs.declared.file_mode.FileMode.TheVariants.{Unix, Absent}
use Rattle.scm_types.specs.declared.line.ChangeType.{ChangeType}
use Rattle.scm_types.specs.declared.line.ChangeType.TheVariants.{Added, Removed}
use Rattle.scm_types.specs.declared.line.SectionChangedLine.{SectionChangedLine}
use Rattle.scm_types.specs.declared.section.Section.{Section}
use Rattle.scm_types.specs.declared.section.Section.TheVariants as section
use Rattle.scm_types.specs.declared.file.File.{File}
use Rattle.scm_types.specs.declared.split.SelectedContents.TheVariants.{Text}
use Rattle.scm_types.specs.Marks.{file_with_marks}
use Rattle.scm_types.specs.Laws.{is_in_side, line_text, lines_of_file, unchanged_as_empty}
use Rattle.scm_types.specs.Split.{side_contents, side_mode}
use Rattle.scm_embed.specs.Lines.{lines_of}
use Rattle.scm_diff.specs.declared.change.Version.{Version}
use Rattle.scm_diff.specs.declared.hunk.Hunk.{Hunk}
use Rattle.scm_diff.specs.Hunks.{AreHunks}
use Rattle.scm_diff.specs.Pairs.{unchecked_line}
use Rattle.scm_diff.specs.Sections.{AreSections}
use Rattle.scm_diff.specs.Sides.{side_text, text_of, with_line_ends}

-- the mode of a version of a file, which may not exist
abbrev pub mode_of : Option Version → FileMode
mode_of None = Absent
mode_of (Some v) = Unix v.mode

-- the text of a version of a file: empty if the file does not exist
abbrev pub text_in : Option Version → List ℕ
text_in None = []
text_in (Some v) = v.text.now

-- whether the modes are equal
abbrev pub is_same_mode : FileMode → FileMode → Bool
is_same_mode Absent Absent = true
is_same_mode Absent (Unix b) = false
is_same_mode (Unix a) Absent = false
is_same_mode (Unix a) (Unix b) = a == b

-- the section of the change of mode, if the mode changes
abbrev pub mode_sections : FileMode → FileMode → List Section
mode_sections old new = if is_same_mode old new then [] else section.FileMode false new ∷ []

-- the file with every item unchecked, and with every item checked
abbrev pub unchecked : File → File
unchecked file = file_with_marks (λ _. false) file

abbrev pub checked : File → File
checked file = file_with_marks (λ _. true) file

-- the checked changed line
abbrev pub checked_line : ChangeType → List ℕ → SectionChangedLine
checked_line kind text = record { is_checked = true; change_type = kind; line = text }

-- `marked` is `file` with two neighbouring lines checked: a removed one and the added one after it.
pub record IsPairMarked (file marked : File) (removed added : List ℕ) : Type 0 where
  pub sections_before : List Section
  pub lines_before : List SectionChangedLine
  pub lines_after : List SectionChangedLine
  pub sections_after : List Section
  pub were : file.sections
      ≡ sections_before ++ section.Changed (lines_before ++ unchecked_line Removed removed ∷ unchecked_line Added added ∷ lines_after) ∷ sections_after
  pub are : marked.sections
      ≡ sections_before ++ section.Changed (lines_before ++ checked_line Removed removed ∷ checked_line Added added ∷ lines_after) ∷ sections_after

-- The text is that of the lines with one line replaced in place.
pub record IsReplaced (lines : List (List ℕ)) (line other : List ℕ) (text : List ℕ) : Type 0 where
  pub before : List (List ℕ)
  pub after : List (List ℕ)
  pub were : lines ≡ before ++ line ∷ after
  pub are : text ≡ text_of (before ++ other ∷ after)

-- The file shows how `old` becomes `new`.
pub record IsChange (path : List ℕ) (old new : Option Version) (file : File) : Type 0 where
  pub same_path : file.path ≡ path
  pub no_old_path : file.old_path ≡ None
  pub old_mode : file.file_mode ≡ mode_of old
  -- the sections are the change of mode, and the lines by their differences, in pairs
  pub hunks : List Hunk
  pub are_hunks : AreHunks (lines_of (text_in old)) (lines_of (text_in new)) hunks
  pub sections : List Section
  pub sections_are : file.sections ≡ mode_sections (mode_of old) (mode_of new) ++ sections
  pub are_sections : AreSections (lines_of (text_in old)) (lines_of (text_in new)) 0 hunks sections
  -- nothing is checked
  pub nothing_checked : unchecked file ≡ file
  -- nothing checked: the selected side is the old version, the other one the new version
  pub selected : side_text true file ≡ text_in old
  pub unselected : side_text false file ≡ text_in new
  pub selected_mode : side_mode true file ≡ mode_of old
  pub unselected_mode : side_mode false file ≡ mode_of new
  -- nothing checked: so are the contents of the split, where `Unchanged` counts as the empty text
  pub split_selected : unchanged_as_empty (side_contents true file) ≡ Text (text_in old)
  pub split_unselected : unchanged_as_empty (side_contents false file) ≡ Text (text_in new)
  -- everything checked: the selected side is the new version, the other one the old version
  pub checked_selected : side_text true (checked file) ≡ text_in new
  pub checked_unselected : side_text false (checked file) ≡ text_in old
  pub checked_split_selected : unchanged_as_empty (side_contents true (checked file)) ≡ Text (text_in new)
  pub checked_split_unselected : unchanged_as_empty (side_contents false (checked file)) ≡ Text (text_in old)
  pub checked_selected_mode : side_mode true (checked file) ≡ mode_of new
  pub checked_unselected_mode : side_mode false (checked file) ≡ mode_of old
  -- one pair checked: the selected side is the old text with that line replaced in place
  pub pair_selected : (marked : File) (removed added : List ℕ) → IsPairMarked file marked removed added
      → IsReplaced (lines_of (text_in old)) removed added (side_text true marked)
  -- any marks: the lines of a side's text are the lines of the file that stand there by their marks,
  -- in order; none is joined with another, or lost
  pub any_marks : (marked : File) (side : Bool) → unchecked marked ≡ file
      → lines_of (side_text side marked) ≡ with_line_ends (map line_text (filter (is_in_side side) (lines_of_file marked)))
