-- The line that a section stands in, as git shows it behind `@@`, and the labels that say it: `Section 3/7  fn main() {`.
use Rattle.std.specs.Prelude.{ℕ, ◌+◌, ◌≡◌, ◌⊎◌, nat_eq, nat_le, ◌==◌, Bool, true, false, not, ◌&&◌, ◌||◌, List, [], ◌∷◌, ◌++◌, length, map, filter, take, count_by, codes, slice_get, Option, Some, None, find, if◌then◌else◌}
use Rattle.std.specs.Fmt.Cut.{floor_char_boundary}
use Rattle.std.specs.List.{flat_map}
use Rattle.std.specs.Option.{option_and_then, option_or, option_to_list}
use Rattle.std.specs.Str.{trim_end}
use Rattle.scm_types.specs.Marks.{is_editable_section}
use Rattle.scm_types.specs.declared.file.File.{File}
use Rattle.scm_types.specs.declared.line.ChangeType.{ChangeType}
use Rattle.scm_types.specs.declared.line.ChangeType.TheVariants.{Added, Removed}
use Rattle.scm_types.specs.declared.line.SectionChangedLine.{SectionChangedLine}
use Rattle.scm_types.specs.declared.section.Section.{Section}
use Rattle.scm_types.specs.declared.section.Section.TheVariants.{Unchanged, Changed, FileMode, Binary}
use Rattle.scm_document.specs.Texts.{section_text}
use Rattle.scm_front_paint.specs.declared.labels.Label.{Label}
use Rattle.scm_front_paint.specs.Labels.{is_of, text_in, text_of}

-- ---- the line

-- whether a byte is `A` to `Z` or `a` to `z`
abbrev pub is_letter : ℕ → Bool
is_letter byte = (nat_le 65 byte && nat_le byte 90) || (nat_le 97 byte && nat_le byte 122)

-- whether a line begins with a letter, `_` or `$`: git's rule for the lines that name functions
abbrev pub is_heading : List ℕ → Bool
is_heading [] = false
is_heading (byte ∷ more) = is_letter byte || (nat_eq byte 95 || nat_eq byte 36)

-- the last heading among `lines`, or `above` if there is none
abbrev pub last_heading : List ℕ → List (List ℕ) → List ℕ
last_heading above [] = above
last_heading above (line ∷ more) = last_heading (if is_heading line then line else above) more

-- whether a change removes its line
abbrev pub removes : ChangeType → Bool
removes Added = false
removes Removed = true

-- whether the old version of a file has a changed line
abbrev pub is_old : SectionChangedLine → Bool
is_old line = removes line.change_type

-- the texts of the changed lines that the old version has
abbrev pub old_texts : List SectionChangedLine → List (List ℕ)
old_texts lines = map (λ (line : SectionChangedLine). line.line) (filter is_old lines)

-- the lines that the old version has in a section
abbrev pub old_lines : Section → List (List ℕ)
old_lines (Unchanged lines) = lines
old_lines (Changed lines) = old_texts lines
old_lines (FileMode is_checked mode) = []
old_lines (Binary is_checked old new) = []

-- the heading above section `index` of a file: the last one in the old lines before the section; empty if there is none
abbrev pub heading_above : List Section → ℕ → List ℕ
heading_above sections index = last_heading [] (flat_map old_lines (take index sections))

-- ---- the label

-- the most bytes of a heading that a label shows
abbrev pub max_heading : ℕ
max_heading = 80

-- the first bytes of a line, in whole characters
abbrev pub first_bytes : List ℕ → List ℕ
first_bytes line = if nat_le (length line) max_heading then line else take (floor_char_boundary line max_heading) line

-- what a label shows of a heading: its first bytes, without white space at the end
abbrev pub shown_heading : List ℕ → List ℕ
shown_heading line = trim_end (first_bytes line)

-- the title of a section, and the heading above it
abbrev pub heading_text : ℕ → ℕ → List ℕ → List ℕ
heading_text number total heading = section_text number total ++ (codes "  " ++ shown_heading heading)

-- whether a section has changed lines
abbrev pub is_changed : Section → Bool
is_changed (Unchanged lines) = false
is_changed (Changed lines) = true
is_changed (FileMode is_checked mode) = false
is_changed (Binary is_checked old new) = false

-- the label of a section of changed lines, if there is a heading above it
abbrev pub heading_label : ℕ → ℕ → ℕ → ℕ → List ℕ → Section → Option Label
heading_label file index number total heading section =
    if is_changed section && not (length heading == 0)
    then Some (record { file = file; section = index; text = heading_text number total heading }) else None

-- the label of section `index` of file `file`: its title has its number among the editable sections, and their total
abbrev pub label_in : ℕ → List Section → ℕ → Option Label
label_in file sections index =
    option_and_then
    (heading_label file index (count_by is_editable_section (take index sections) + 1) (count_by is_editable_section sections) (heading_above sections index))
    (slice_get sections index)

abbrev pub label_for : List File → ℕ → ℕ → Option Label
label_for files file index = option_and_then (λ (f : File). label_in file f.sections index) (slice_get files file)

-- ---- sections that are named

-- the label of a section once sections are named: the one that it has, or else that with the heading above it
abbrev pub named_label : List File → List Label → ℕ → ℕ → Option Label
named_label files labels file section = option_or (find (is_of file section) labels) (label_for files file section)

-- each section shows the text of that label
abbrev pub AreNamed : List File → List Label → List Label → Type 0
AreNamed files old new = (file section : ℕ) → text_of new file section ≡ text_in (named_label files old file section)

-- some sections do, and all others show what they showed before
abbrev pub AreSomeNamed : List File → List Label → List Label → Type 0
AreSomeNamed files old new =
    (file section : ℕ)
    → (text_of new file section ≡ text_in (named_label files old file section)) ⊎ (text_of new file section ≡ text_of old file section)

-- ---- all labels in order

-- the number of editable sections up to the end of a section, if `number` are before it
abbrev pub number_below : ℕ → Section → ℕ
number_below number section = if is_editable_section section then number + 1 else number

-- the labels of the last sections of a file with `total` editable ones: `index` sections and `number` editable ones are before them, and the
-- last heading there is `above`
unfoldable pub labels_below : ℕ → ℕ → ℕ → ℕ → List ℕ → List Section → List Label
labels_below file total index number above [] = []
labels_below file total index number above (section ∷ more) =
    option_to_list (heading_label file index (number + 1) total above section)
    ++ labels_below file total (index + 1) (number_below number section) (last_heading above (old_lines section)) more

-- the labels of the sections of a file
abbrev pub labels_in : ℕ → List Section → List Label
labels_in file sections = labels_below file (count_by is_editable_section sections) 0 0 [] sections

-- the labels of the last files, of which the first is file `file`
unfoldable pub labels_from : ℕ → List File → List Label
labels_from file [] = []
labels_from file (f ∷ more) = labels_in file f.sections ++ labels_from (file + 1) more

-- a first part of `all` is behind `old`, and `rest` is the other part
abbrev pub Gains : List Label → List Label → List Label → List Label → Type 0
Gains all rest old new = (part : List Label) × (all ≡ part ++ rest) × (new ≡ old ++ part)

abbrev pub GainsSome : List Label → List Label → List Label → Type 0
GainsSome all old new = (rest : List Label) × Gains all rest old new
