-- How much of the files of a state is marked.
use Rattle.std.specs.Prelude.{ℕ, List, count_by, slice_get, sum_by, Option, Some, None, if◌then◌else◌}
use Rattle.scm_types.specs.declared.file.File.{File}
use Rattle.scm_types.specs.declared.line.SectionChangedLine.{SectionChangedLine}
use Rattle.scm_types.specs.declared.section.Section.{Section}
use Rattle.scm_types.specs.declared.section.Section.TheVariants as sections
use Rattle.scm_selection.specs.Counts.{is_changed}

-- the number of checked lines of a section, a file and files
abbrev pub checked_in_section : Section → ℕ
checked_in_section (sections.Unchanged lines) = 0
checked_in_section (sections.Changed lines) = count_by (λ (l : SectionChangedLine). l.is_checked) lines
checked_in_section (sections.FileMode is_checked mode) = 0
checked_in_section (sections.Binary is_checked old new) = 0

abbrev pub checked_in_file : File → ℕ
checked_in_file file = sum_by checked_in_section file.sections

abbrev pub checked_lines : List File → ℕ
checked_lines files = sum_by checked_in_file files

-- 1 if a file is not wholly unchecked, else 0
abbrev pub changed_in_file : File → ℕ
changed_in_file file = if is_changed file then 1 else 0

-- the number of files that are not wholly unchecked
abbrev pub changed_files : List File → ℕ
changed_files files = count_by is_changed files

-- ---- what one element adds to a sum

-- the number of an element, or 0 without one
abbrev pub part_of : {A : Type 0} → (A → ℕ) → Option A → ℕ
part_of f None = 0
part_of f (Some x) = f x

-- what element `index` of `xs` adds to the sum of the numbers `f`
abbrev pub part_at : {A : Type 0} → (A → ℕ) → List A → ℕ → ℕ
part_at f xs index = part_of f (slice_get xs index)
