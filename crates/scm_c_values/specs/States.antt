-- What calls tell of a state: the number of files, their sides, marks, messages and lines.
use Rattle.std.specs.Prelude.{◌≡◌, ℕ, ◌==◌, List, [], length, Bool, Option, Some, None, Result, Ok, Err, option_map, option_and_then, slice_get, map, true, false, if◌then◌else◌}
use Rattle.std.specs.List.{flat_map}
use Rattle.scm_types.specs.declared.file.File.{File}
use Rattle.scm_types.specs.declared.file_mode.FileMode.{FileMode}
use Rattle.scm_types.specs.declared.file_mode.FileMode.TheVariants.{Unix, Absent}
use Rattle.scm_types.specs.declared.line.SectionChangedLine.{SectionChangedLine}
use Rattle.scm_types.specs.declared.section.Section.{Section}
use Rattle.scm_types.specs.declared.section.Section.TheVariants as sections
use Rattle.scm_types.specs.declared.split.SelectedContents.{SelectedContents}
use Rattle.scm_types.specs.declared.split.SelectedContents.TheVariants as contents
use Rattle.scm_types.specs.declared.split.SelectedChanges.{SelectedChanges}
use Rattle.scm_types.specs.declared.state.Commit.{Commit}
use Rattle.scm_types.specs.declared.state.RecordState.{RecordState}
use Rattle.scm_types.specs.declared.tristate.Tristate.{Tristate}
use Rattle.scm_types.specs.declared.tristate.Tristate.TheVariants.{False, Partial, True}
use Rattle.scm_types.specs.Marks.{section_marks}
use Rattle.scm_types.specs.Split.{side_of}
use Rattle.scm_embed.specs.MarkOf.{mark_in_state}
use Rattle.scm_c_values.specs.declared.owners.Key.{Key}
use Rattle.scm_c_values.specs.declared.sides.Side.{Side}
use Rattle.scm_c_values.specs.Keys.{no_index}
use Rattle.scm_c_values.specs.Buffers.{over}

-- ---- questions

-- The code of a question whose answer is found or not.
abbrev pub code_of_found : {A : Type 0} → Option A → ℕ
code_of_found None = 9
code_of_found (Some answer) = 0

-- The code of a question.
abbrev pub code_of_question : {A : Type 0} → (RecordState → Option A) → Result RecordState ℕ → ℕ
code_of_question ask (Ok state) = code_of_found (ask state)
code_of_question ask (Err code) = code

-- The answer to a question, if there is one.
abbrev pub answer_of : {A : Type 0} → (RecordState → Option A) → Result RecordState ℕ → Option A
answer_of ask (Ok state) = ask state
answer_of ask (Err code) = None

-- How many files the state has.
abbrev pub file_count : RecordState → Option ℕ
file_count state = Some (length state.files)

-- A side of file `i`, as `File::get_selected_contents` returns it: the selected side or the other one.
abbrev pub side_at : ℕ → Bool → RecordState → Option SelectedChanges
side_at i selected state = option_map (side_of selected) (slice_get state.files i)

-- The message of commit `i`.
abbrev pub message_at : ℕ → RecordState → Option (List ℕ)
message_at i state = option_and_then (λ (c : Commit). c.message) (slice_get state.commits i)

-- The index, unless it is the greatest `usize`, which stands for none.
abbrev pub index_if_any : ℕ → Option ℕ
index_if_any i = if i == no_index then None else Some i

-- The code of a mark.
abbrev pub code_of_mark : Tristate → ℕ
code_of_mark False = 0
code_of_mark Partial = 1
code_of_mark True = 2

-- The code of the mark of the file, the section or the line that a key names.
abbrev pub mark_at : Key → RecordState → Option ℕ
mark_at key state = option_map code_of_mark (mark_in_state key.file (index_if_any key.section) (index_if_any key.line) state)

-- ---- sides

-- The code of a side's contents.
abbrev pub code_of_contents : SelectedContents → ℕ
code_of_contents contents.Unchanged = 0
code_of_contents (contents.Binary old new) = 2
code_of_contents (contents.Text text) = 1

-- The bytes of a side's contents: its text, or none.
abbrev pub bytes_of_contents : SelectedContents → List ℕ
bytes_of_contents contents.Unchanged = []
bytes_of_contents (contents.Binary old new) = []
bytes_of_contents (contents.Text text) = text

-- The bits of a mode. The greatest `usize` stands for no file.
abbrev pub bits_of_mode : FileMode → ℕ
bits_of_mode (Unix bits) = bits
bits_of_mode Absent = no_index

-- A side as it is told: its kind, its mode, and the number of its bytes.
abbrev pub told_of_side : SelectedChanges → Side
told_of_side side = record {
  contents = code_of_contents side.contents;
  mode = bits_of_mode side.file_mode;
  len = length (bytes_of_contents side.contents);
}

-- The side is told, and its bytes are written over the buffer. Without a side this is false.
abbrev pub TellsSide : Option SelectedChanges → List ℕ → List ℕ → Side → Type 0
TellsSide None old new told = ⊥
TellsSide (Some side) old new told = (told ≡ told_of_side side) × (new ≡ over (bytes_of_contents side.contents) old)

-- ---- all marks of a file

-- The byte of a mark.
abbrev pub byte_of_mark : Bool → ℕ
byte_of_mark true = 1
byte_of_mark false = 0

-- The bytes of the marks of a section, in order: of each changed line, or of the one change of mode or of contents.
abbrev pub bytes_of_section : Section → List ℕ
bytes_of_section section = map byte_of_mark (section_marks section)

-- The bytes of the marks of file `i`, in order.
abbrev pub marks_at : ℕ → RecordState → Option (List ℕ)
marks_at i state = option_map (λ (file : File). flat_map bytes_of_section file.sections) (slice_get state.files i)

-- ---- lines

-- The text of line `i` of a section, if it has lines.
abbrev pub text_of_line : ℕ → Section → Option (List ℕ)
text_of_line i (sections.Unchanged lines) = slice_get lines i
text_of_line i (sections.Changed lines) = option_map (λ (l : SectionChangedLine). l.line) (slice_get lines i)
text_of_line i (sections.FileMode is_checked mode) = None
text_of_line i (sections.Binary is_checked old new) = None

-- The text of the line that a key names, in its file.
abbrev pub line_in_file : Key → File → Option (List ℕ)
line_in_file key file = option_and_then (text_of_line key.line) (slice_get file.sections key.section)

-- The text of the line that a key names.
abbrev pub line_at : Key → RecordState → Option (List ℕ)
line_at key state = option_and_then (line_in_file key) (slice_get state.files key.file)
