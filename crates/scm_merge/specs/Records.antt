-- The merge of three files, as records of bytes.
use Rattle.std.specs.Prelude.{◌≡◌, ℕ, ◌==◌, List, [], ◌∷◌, ◌++◌, length, if◌then◌else◌}
use Rattle.std.specs.Int.{to_le_bytes, w64}
use Rattle.std.specs.List.{flat_map}
use Rattle.scm_types.specs.declared.file.File.{File}
use Rattle.scm_types.specs.declared.file_mode.FileMode.TheVariants.{Absent}
use Rattle.scm_types.specs.declared.line.SectionChangedLine.{SectionChangedLine}
use Rattle.scm_types.specs.declared.section.Section.{Section}
use Rattle.scm_types.specs.declared.section.Section.TheVariants.{Unchanged, Changed, FileMode, Binary}
use Rattle.scm_diff.specs.Bytes.{text_of_bytes}
use Rattle.scm_merge.specs.Merge.{IsMerge}
use Rattle.scm_merge.specs.declared.texts.Texts.{Texts}

-- the texts that stand for the bytes of three versions
abbrev pub texts_of : List ℕ → List ℕ → List ℕ → Texts
texts_of base ours theirs = record { base = text_of_bytes base; ours = text_of_bytes ours; theirs = text_of_bytes theirs }

-- The file shows the merge of three texts, with nothing chosen.
abbrev pub IsMergeOfTexts : Texts → File → Type 0
IsMergeOfTexts texts file = IsMerge [] Absent texts.base texts.ours texts.theirs file

-- The file shows the merge of three files by their bytes, with nothing chosen.
abbrev pub IsMergeOfBytes : List ℕ → List ℕ → List ℕ → File → Type 0
IsMergeOfBytes base ours theirs file = IsMergeOfTexts (texts_of base ours theirs) file

-- a record: a letter, the number of bytes of a text in eight bytes, the lowest one first, and the text
abbrev pub record_bytes : ℕ → List ℕ → List ℕ
record_bytes letter text = letter ∷ to_le_bytes w64 (length text) ++ text

-- a record of each context line: a blank and the line
abbrev pub context_records : List (List ℕ) → List ℕ
context_records lines = flat_map (record_bytes 32) lines

-- a record of a changed line
abbrev pub item_record : ℕ → SectionChangedLine → List ℕ
item_record letter line = record_bytes letter line.line

-- a record of each changed line
abbrev pub changed_records : ℕ → List SectionChangedLine → List ℕ
changed_records letter lines = flat_map (item_record letter) lines

-- the letter of a version in a conflict, of which `seen` versions came before: `o` of ours, `b` of the base, `t` of theirs
abbrev pub letter_of : ℕ → ℕ
letter_of seen = if seen == 0 then 111 else if seen == 1 then 98 else 116

-- how many versions of a conflict have come after one more
abbrev pub next_of : ℕ → ℕ
next_of seen = if seen == 0 then 1 else if seen == 1 then 2 else 0

-- how many versions of a conflict have come after a section
abbrev pub seen_after : ℕ → Section → ℕ
seen_after seen (Unchanged lines) = 0
seen_after seen (Changed lines) = next_of seen
seen_after seen (FileMode is_checked mode) = 0
seen_after seen (Binary is_checked old new) = 0

-- the records of a section, before which `seen` versions of a conflict came
abbrev pub section_records : ℕ → Section → List ℕ
section_records seen (Unchanged lines) = context_records lines
section_records seen (Changed lines) = changed_records (letter_of seen) lines
section_records seen (FileMode is_checked mode) = []
section_records seen (Binary is_checked old new) = []

abbrev pub sections_records : ℕ → List Section → List ℕ
sections_records seen [] = []
sections_records seen (section ∷ sections) = section_records seen section ++ sections_records (seen_after seen section) sections

-- the records of a file
abbrev pub file_records : File → List ℕ
file_records file = sections_records 0 file.sections

-- The records show the merge of three files.
pub record ShowsMerge (base ours theirs records : List ℕ) : Type 0 where
  pub file : File
  pub is_merge : IsMergeOfBytes base ours theirs file
  pub records_are : records ≡ file_records file
