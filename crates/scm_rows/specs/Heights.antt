-- How many rows a section has, by its place, by whether it is unfolded, and by whether its neighbours are open. The rows of a message.
use Rattle.std.specs.Prelude.{ℕ, ◌+◌, List, length, Bool, ◌&&◌, ◌||◌, if◌then◌else◌, Option, Some, None}
use Rattle.scm_types.specs.declared.section.Section.{Section}
use Rattle.scm_types.specs.declared.section.Section.TheVariants.{Unchanged, Changed, FileMode, Binary}
use Rattle.scm_types.specs.Marks.{is_editable_section}
use Rattle.scm_rows.specs.declared.section_place.SectionPlace.{SectionPlace}
use Rattle.scm_rows.specs.declared.section_shape.SectionShape.{SectionShape}
use Rattle.scm_rows.specs.declared.section_shape.SectionShape.TheVariants as shapes
use Rattle.scm_rows.specs.Context.{context_height}

-- what a section is, whatever its marks
abbrev pub shape_of : Section → SectionShape
shape_of (Unchanged lines) = shapes.Context (length lines)
shape_of (Changed lines) = shapes.Changed
shape_of (FileMode is_checked mode) = shapes.Mark
shape_of (Binary is_checked old new) = shapes.Mark

-- how many rows a section of n changed lines has, with its header
abbrev pub changed_height : Bool → ℕ → ℕ
changed_height is_unfolded n = if is_unfolded then 1 + n else 1

-- how many rows the section at p has if it is shown
abbrev pub height_of : SectionPlace → Bool → Section → ℕ
height_of p is_unfolded (Unchanged lines) = context_height p (length lines)
height_of p is_unfolded (Changed lines) = changed_height is_unfolded (length lines)
height_of p is_unfolded (FileMode is_checked mode) = 1
height_of p is_unfolded (Binary is_checked old new) = 1

-- whether the section is open: editable and unfolded
abbrev pub is_section_open : Bool → Section → Bool
is_section_open is_unfolded section = is_editable_section section && is_unfolded

-- whether the section is shown: it is editable, or the section before or after it is open
abbrev pub is_section_visible : Bool → Section → Bool → Bool
is_section_visible before section after = is_editable_section section || (before || after)

-- how many rows the section at p has: 0 if it is not shown
abbrev pub shown_height : SectionPlace → Bool → Bool → Section → Bool → ℕ
shown_height p is_unfolded before section after = if is_section_visible before section after then height_of p is_unfolded section else 0

-- how many rows a message has: 3, or 0 if there is none
abbrev pub message_height : Option (List ℕ) → ℕ
message_height None = 0
message_height (Some message) = 3
