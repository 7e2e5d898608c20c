-- The mark of a file, a section or a line, by their indexes.
use Rattle.std.specs.Prelude.{ℕ, Bool, true, false, Option, Some, None, option_map, option_and_then, slice_get}
use Rattle.scm_types.specs.declared.line.SectionChangedLine.{SectionChangedLine}
use Rattle.scm_types.specs.declared.section.Section.{Section}
use Rattle.scm_types.specs.declared.section.Section.TheVariants as sections
use Rattle.scm_types.specs.declared.file.File.{File}
use Rattle.scm_types.specs.declared.state.RecordState.{RecordState}
use Rattle.scm_types.specs.declared.tristate.Tristate.{Tristate}
use Rattle.scm_types.specs.declared.tristate.Tristate.TheVariants.{False, True}
use Rattle.scm_types.specs.Marks.{file_marks, section_marks, tristate_of}

-- the mark of one item
abbrev pub mark_of_bool : Bool → Tristate
mark_of_bool true = True
mark_of_bool false = False

-- the mark of line `i` of a section, if it is a changed line
abbrev pub mark_of_line : ℕ → Section → Option Tristate
mark_of_line i (sections.Unchanged lines) = None
mark_of_line i (sections.Changed lines) = option_map (λ (l : SectionChangedLine). mark_of_bool l.is_checked) (slice_get lines i)
mark_of_line i (sections.FileMode is_checked mode) = None
mark_of_line i (sections.Binary is_checked old new) = None

-- the mark of a section, or of one of its lines
abbrev pub mark_in_section : Option ℕ → Section → Option Tristate
mark_in_section None section = Some (tristate_of (section_marks section))
mark_in_section (Some line) section = mark_of_line line section

-- the mark of a file, or of what is named in it
abbrev pub mark_in_file : Option ℕ → Option ℕ → File → Option Tristate
mark_in_file None line file = Some (tristate_of (file_marks file))
mark_in_file (Some i) line file = option_and_then (mark_in_section line) (slice_get file.sections i)

-- the mark of file `i`, or of the section or line that is named in it
abbrev pub mark_in_state : ℕ → Option ℕ → Option ℕ → RecordState → Option Tristate
mark_in_state i part line state = option_and_then (mark_in_file part line) (slice_get state.files i)
