-- What the lines of a section count for.
use Rattle.std.specs.Prelude.{ℕ, length, count_by, Bool, true, false}
use Rattle.scm_types.specs.declared.line.ChangeType.{ChangeType}
use Rattle.scm_types.specs.declared.line.ChangeType.TheVariants.{Added, Removed}
use Rattle.scm_types.specs.declared.line.SectionChangedLine.{SectionChangedLine}
use Rattle.scm_types.specs.declared.section.Section.{Section}
use Rattle.scm_types.specs.declared.section.Section.TheVariants.{Unchanged, Changed, FileMode, Binary}

-- whether a change removes its line
abbrev pub removes : ChangeType → Bool
removes Added = false
removes Removed = true

-- whether the line is removed
abbrev pub is_removed : SectionChangedLine → Bool
is_removed l = removes l.change_type

-- the number of lines that the section has before the changes
abbrev pub old_lines : Section → ℕ
old_lines (Unchanged lines) = length lines
old_lines (Changed lines) = count_by is_removed lines
old_lines (FileMode is_checked mode) = 0
old_lines (Binary is_checked old new) = 0

-- whether the section has changed lines
abbrev pub is_changed : Section → Bool
is_changed (Unchanged lines) = false
is_changed (Changed lines) = true
is_changed (FileMode is_checked mode) = false
is_changed (Binary is_checked old new) = false
