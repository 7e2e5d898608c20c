-- Where a line of a file stands on a side.
use Rattle.std.specs.Prelude.{ℕ, ◌+◌, ◌-◌, ◌/◌, min, Bool, length, filter, take, slice_get, Option, Some, None}
use Rattle.scm_types.specs.declared.file.File.{File}
use Rattle.scm_types.specs.declared.section.Section.{Section}
use Rattle.scm_types.specs.declared.section.Section.TheVariants as section
use Rattle.scm_types.specs.Split.{takes}
use Rattle.scm_pager.specs.Counts.{counted}
use Rattle.scm_pager.specs.Moves.{last_top, page}
use Rattle.scm_pager.specs.Sides.{shown_lines}
use Rattle.scm_pager.specs.Windows.{capped, capped_length}
use Rattle.scm_pager.specs.declared.pager.Pager.{Pager}

-- how many of the first `end` lines of a section a side has
abbrev pub lines_to : Bool → ℕ → Section → ℕ
lines_to selected end (section.Unchanged lines) = length (take end lines)
lines_to selected end (section.Changed lines) = length (filter (takes selected) (take end lines))
lines_to selected end (section.FileMode is_checked mode) = 0
lines_to selected end (section.Binary is_checked old new) = 0

-- the same of a section, or none if there is no section
abbrev pub lines_to_in : Bool → ℕ → Option Section → ℕ
lines_to_in selected end None = 0
lines_to_in selected end (Some s) = lines_to selected end s

-- how many lines a side has before line `line` of section `index`, and of a section that is not there before the end
abbrev pub line_at : Bool → File → ℕ → ℕ → ℕ
line_at selected file index line =
    capped (counted selected 0 (take index file.sections) + lines_to_in selected line (slice_get file.sections index))

-- the pager with line `line` of section `index` of its file on a screen of `height` rows: a third of the page is above it
abbrev pub shown_at : Pager → File → ℕ → ℕ → ℕ → Pager
shown_at p file index line height =
    record p { top = min (line_at p.selected file index line - page height / 3) (last_top (capped_length (shown_lines p.selected file)) (page height)) }
