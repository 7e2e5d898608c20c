-- Marks that are to be set. A deed sets the marks of an item by a toggle, or folds it again.
use Rattle.std.specs.Prelude.{Bool, true, false, not, ◌&&◌, List, fold, slice_get, Option, Some, None, if◌then◌else◌}
use Rattle.std.specs.List.{list_all}
use Rattle.scm_types.specs.declared.file.File.{File}
use Rattle.scm_types.specs.declared.line.SectionChangedLine.{SectionChangedLine}
use Rattle.scm_types.specs.declared.section.Section.{Section}
use Rattle.scm_types.specs.declared.section.Section.TheVariants as sections
use Rattle.scm_types.specs.Keys.{has_key}
use Rattle.scm_types.specs.declared.keys.SelectionKey.{SelectionKey}
use Rattle.scm_types.specs.declared.keys.SelectionKey.TheVariants as keys
use Rattle.scm_selection.specs.KeysAround.{is_key_of, sections_at, lines_at}
use Rattle.scm_selection.specs.Toggle.{with_key_toggled}
use Rattle.scm_front_items.specs.declared.targets.Target.{Target}
use Rattle.scm_front_items.specs.declared.targets.Deed.{Deed}
use Rattle.scm_front_items.specs.declared.targets.Deed.TheVariants.{Mark, Fold}

-- a target by its two fields
abbrev pub target : SelectionKey → Bool → Target
target key is_checked = record { key = key; is_checked = is_checked }

-- whether a mark is as it is to be
abbrev pub is_as : Bool → Bool → Bool
is_as true mark = mark
is_as false mark = not mark

-- whether each mark of a section is as it is to be
abbrev pub is_section_as : Bool → Section → Bool
is_section_as mark (sections.Unchanged lines) = true
is_section_as mark (sections.Changed lines) = list_all (λ (l : SectionChangedLine). is_as mark l.is_checked) lines
is_section_as mark (sections.FileMode is_checked mode) = is_as mark is_checked
is_section_as mark (sections.Binary is_checked old new) = is_as mark is_checked

-- whether each mark of a file is
abbrev pub is_file_as : Bool → File → Bool
is_file_as mark file = list_all (is_section_as mark) file.sections

-- whether the thing, if it is there, passes the test
abbrev pub passes_if_there : {A : Type 0} → (A → Bool) → Option A → Bool
passes_if_there test None = true
passes_if_there test (Some x) = test x

-- whether each mark that a key names is as it is to be; a key that names none has nothing to set
abbrev pub is_key_as : List File → Bool → SelectionKey → Bool
is_key_as files mark keys.None = true
is_key_as files mark (keys.File key) = passes_if_there (is_file_as mark) (slice_get files key.file_idx)
is_key_as files mark (keys.Section key) = passes_if_there (is_section_as mark) (slice_get (sections_at files key.file_idx) key.section_idx)
is_key_as files mark (keys.Line key) =
    passes_if_there (λ (l : SectionChangedLine). is_as mark l.is_checked)
    (slice_get (lines_at (sections_at files key.file_idx) key.section_idx) key.line_idx)

-- the same of a target
abbrev pub is_marked : List File → Target → Bool
is_marked files t = is_key_as files t.is_checked t.key

-- the files after a target: its key is toggled, if the files have it, unless its marks are as they are to be
abbrev pub after_target : List File → Target → List File
after_target files t = if is_key_of files t.key && not (is_marked files t) then with_key_toggled t.key files else files

-- the files after a deed: a fold changes no mark
abbrev pub after_deed : List File → Deed → List File
after_deed files (Mark t) = after_target files t
after_deed files (Fold key) = files

-- the files after deeds, in order
abbrev pub after_deeds : List File → List Deed → List File
after_deeds files deeds = fold after_deed files deeds

-- the key that a deed selects
abbrev pub key_of : Deed → SelectionKey
key_of (Mark t) = t.key
key_of (Fold key) = key

-- whether a deed has something to do, if these keys are unfolded
abbrev pub is_open_deed : List File → List SelectionKey → Deed → Bool
is_open_deed files expanded (Mark t) = not (is_marked files t)
is_open_deed files expanded (Fold key) = has_key expanded key
