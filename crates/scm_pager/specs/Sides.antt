-- The lines of a side of a file, each with whether it is there by a mark.
use Rattle.std.specs.Prelude.{ℕ, List, [], ◌∷◌, Bool, false, map, filter, Option, Some, None, if◌then◌else◌}
use Rattle.std.specs.List.{flat_map}
use Rattle.scm_types.specs.declared.file.File.{File}
use Rattle.scm_types.specs.declared.line.SectionChangedLine.{SectionChangedLine}
use Rattle.scm_types.specs.declared.section.Section.{Section}
use Rattle.scm_types.specs.declared.section.Section.TheVariants as section
use Rattle.scm_types.specs.Split.{same, tail_of, takes}
use Rattle.scm_pager.specs.declared.lines.SideLine.{SideLine}

-- a line of context: no mark is needed for it
abbrev pub context_line : List ℕ → SideLine
context_line text = record { text = text; is_marked = false }

-- a changed line, on a side that has it
abbrev pub changed_line : SectionChangedLine → SideLine
changed_line line = record { text = line.line; is_marked = line.is_checked }

-- the lines of a section that a side has
abbrev pub lines_of : Bool → Section → List SideLine
lines_of selected (section.Unchanged lines) = map context_line lines
lines_of selected (section.Changed lines) = map changed_line (filter (takes selected) lines)
lines_of selected (section.FileMode is_checked mode) = []
lines_of selected (section.Binary is_checked old new) = []

-- the mark of a section that changes binary contents, or else `mark`
abbrev pub mark_or : Option Bool → Section → Option Bool
mark_or mark (section.Unchanged lines) = mark
mark_or mark (section.Changed lines) = mark
mark_or mark (section.FileMode is_checked mode) = mark
mark_or mark (section.Binary is_checked old new) = Some is_checked

-- the mark of the last section that changes binary contents, or else `mark`
abbrev pub last_mark : Option Bool → List Section → Option Bool
last_mark mark [] = mark
last_mark mark (s ∷ ss) = last_mark (mark_or mark s) ss

-- whether a section of this mark stands in the place of the side
abbrev pub is_on : Bool → Option Bool → Bool
is_on selected None = false
is_on selected (Some is_checked) = same is_checked selected

-- whether a section with binary contents stands in the place of the side's lines
abbrev pub is_replaced : Bool → File → Bool
is_replaced selected file = is_on selected (last_mark None file.sections)

-- the lines of a side: none if binary contents stand in their place
abbrev pub shown_lines : Bool → File → List SideLine
shown_lines selected file = if is_replaced selected file then [] else flat_map (lines_of selected) (tail_of file.sections)
