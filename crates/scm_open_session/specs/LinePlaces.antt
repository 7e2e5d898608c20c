-- The line of a file at which an item is, in the old version of the file and in the new one.
use Rattle.std.specs.Prelude.{ℕ, ◌+◌, suc, min, List, filter, length, take, Bool, true, false, not, Option, Some, None, option_map, unwrap_or, slice_get}
use Rattle.std.specs.List.{sum_by}
use Rattle.scm_types.specs.declared.file.File.{File}
use Rattle.scm_types.specs.declared.keys.SelectionKey.{SelectionKey}
use Rattle.scm_types.specs.declared.keys.SelectionKey.TheVariants as keys
use Rattle.scm_types.specs.declared.line.ChangeType.{ChangeType}
use Rattle.scm_types.specs.declared.line.ChangeType.TheVariants.{Added, Removed}
use Rattle.scm_types.specs.declared.line.SectionChangedLine.{SectionChangedLine}
use Rattle.scm_types.specs.declared.section.Section.{Section}
use Rattle.scm_types.specs.declared.section.Section.TheVariants as sections
use Rattle.scm_types.specs.declared.state.RecordState.{RecordState}
use Rattle.scm_open_session.specs.declared.line_place.LinePlace.{LinePlace}

-- ---- the lines of a version

-- Whether a version has a changed line: the new version has the added lines, the old one those that are removed.
abbrev pub has_kind : Bool → ChangeType → Bool
has_kind is_new Added = is_new
has_kind is_new Removed = not is_new

abbrev pub has_line : Bool → SectionChangedLine → Bool
has_line is_new line = has_kind is_new line.change_type

-- How many lines of a section a version has. It has each context line.
abbrev pub lines_in : Bool → Section → ℕ
lines_in is_new (sections.Unchanged lines) = length lines
lines_in is_new (sections.Changed lines) = length (filter (has_line is_new) lines)
lines_in is_new (sections.FileMode is_checked mode) = 0
lines_in is_new (sections.Binary is_checked old new) = 0

-- How many lines before line `i` of a section a version has.
abbrev pub lines_before_line : Bool → ℕ → Section → ℕ
lines_before_line is_new i (sections.Unchanged lines) = length (take i lines)
lines_before_line is_new i (sections.Changed lines) = length (filter (has_line is_new) (take i lines))
lines_before_line is_new i (sections.FileMode is_checked mode) = 0
lines_before_line is_new i (sections.Binary is_checked old new) = 0

-- How many lines before line `line` of section `section` of a file a version has.
abbrev pub lines_before : Bool → ℕ → ℕ → File → ℕ
lines_before is_new section line file =
    sum_by (lines_in is_new) (take section file.sections)
    + unwrap_or (option_map (lines_before_line is_new line) (slice_get file.sections section)) 0

-- ---- places

-- A number as far as the code counts: no state within the limits has more lines.
abbrev pub capped : ℕ → ℕ
capped n = min n 18446744073709551615

-- The number of a line of a version, counted from 1: one more than the lines of the version before line `line` of section `section` of the file.
abbrev pub line_number : Bool → ℕ → ℕ → File → ℕ
line_number is_new section line file = capped (suc (lines_before is_new section line file))

-- The place of line `line` of section `section` of file `file`, if the state has such a file.
abbrev pub place_in : ℕ → ℕ → ℕ → RecordState → Option LinePlace
place_in file section line state = option_map
    (λ (f : File). record { file = file; old_line = line_number false section line f; new_line = line_number true section line f })
    (slice_get state.files file)

-- The place of an item: that of its first line. That of a file is before all its sections.
abbrev pub place_of : SelectionKey → RecordState → Option LinePlace
place_of keys.None state = None
place_of (keys.File key) state = place_in key.file_idx 0 0 state
place_of (keys.Section key) state = place_in key.file_idx key.section_idx 0 state
place_of (keys.Line key) state = place_in key.file_idx key.section_idx key.line_idx state
