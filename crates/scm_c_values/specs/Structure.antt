-- What calls tell of the items of a state: their kinds, how many parts they have, and the paths of files.
use Rattle.std.specs.Prelude.{ℕ, List, length, Bool, Option, Some, None, option_map, option_and_then, slice_get, if◌then◌else◌}
use Rattle.scm_types.specs.declared.file.File.{File}
use Rattle.scm_types.specs.declared.line.ChangeType.{ChangeType}
use Rattle.scm_types.specs.declared.line.ChangeType.TheVariants.{Added, Removed}
use Rattle.scm_types.specs.declared.line.SectionChangedLine.{SectionChangedLine}
use Rattle.scm_types.specs.declared.section.Section.{Section}
use Rattle.scm_types.specs.declared.section.Section.TheVariants as sections
use Rattle.scm_types.specs.declared.state.RecordState.{RecordState}
use Rattle.scm_c_values.specs.declared.owners.Key.{Key}
use Rattle.scm_c_values.specs.declared.structure.Item.{Item}
use Rattle.scm_c_values.specs.States.{index_if_any}

-- ---- kinds

-- The kind of a changed line, as the owner of a place that shows it is told.
abbrev pub kind_of_change : ChangeType → ℕ
kind_of_change Added = 9
kind_of_change Removed = 10

-- The kind of a section: changed lines, context lines, a change of the mode, or one of binary contents.
abbrev pub kind_of_section : Section → ℕ
kind_of_section (sections.Unchanged lines) = 11
kind_of_section (sections.Changed lines) = 5
kind_of_section (sections.FileMode is_checked mode) = 12
kind_of_section (sections.Binary is_checked old new) = 13

-- How many lines a section has.
abbrev pub line_count : Section → ℕ
line_count (sections.Unchanged lines) = length lines
line_count (sections.Changed lines) = length lines
line_count (sections.FileMode is_checked mode) = 0
line_count (sections.Binary is_checked old new) = 0

-- ---- items

-- A line as it is told.
abbrev pub item_of_kind : ℕ → Item
item_of_kind kind = record { kind = kind; parts = 0 }

-- Line `i` of a section, if it has lines.
abbrev pub line_item : ℕ → Section → Option Item
line_item i (sections.Unchanged lines) = option_map (λ (l : List ℕ). item_of_kind 11) (slice_get lines i)
line_item i (sections.Changed lines) = option_map (λ (l : SectionChangedLine). item_of_kind (kind_of_change l.change_type)) (slice_get lines i)
line_item i (sections.FileMode is_checked mode) = None
line_item i (sections.Binary is_checked old new) = None

-- A section, or one of its lines.
abbrev pub item_in_section : Option ℕ → Section → Option Item
item_in_section None section = Some (record { kind = kind_of_section section; parts = line_count section })
item_in_section (Some line) section = line_item line section

-- A file, or what is named in it.
abbrev pub item_in_file : Option ℕ → Option ℕ → File → Option Item
item_in_file None line file = Some (record { kind = 4; parts = length file.sections })
item_in_file (Some i) line file = option_and_then (item_in_section line) (slice_get file.sections i)

-- The file, the section or the line that a key names: its kind, and how many parts it has.
abbrev pub item_at : Key → RecordState → Option Item
item_at key state =
    option_and_then (item_in_file (index_if_any key.section) (index_if_any key.line)) (slice_get state.files key.file)

-- ---- paths

-- The path of a file, or its path before a rename or a copy, if it had one.
abbrev pub path_of : Bool → File → Option (List ℕ)
path_of is_old file = if is_old then file.old_path else Some file.path

-- The path of file `i`, or its old one.
abbrev pub path_at : ℕ → Bool → RecordState → Option (List ℕ)
path_at i is_old state = option_and_then (path_of is_old) (slice_get state.files i)
