-- The layout of a small file, computed from the definitions: two lines of context, a removed and an added line, a mode, one line of context.
use Rattle.std.proofs.Common.{◌≡◌, ℕ, Bool, true, false, List, [], ◌∷◌, None, refl}
use Rattle.scm_types.specs.declared.file.File.{File}
use Rattle.scm_types.specs.declared.file_mode.FileMode.TheVariants as modes
use Rattle.scm_types.specs.declared.keys.FileKey.{FileKey}
use Rattle.scm_types.specs.declared.keys.SelectionKey.TheVariants as keys
use Rattle.scm_types.specs.declared.line.ChangeType.{ChangeType}
use Rattle.scm_types.specs.declared.line.ChangeType.TheVariants.{Added, Removed}
use Rattle.scm_types.specs.declared.line.SectionChangedLine.{SectionChangedLine}
use Rattle.scm_types.specs.declared.section.Section.{Section}
use Rattle.scm_types.specs.declared.section.Section.TheVariants.{Unchanged, Changed, FileMode}
use Rattle.scm_types.specs.Keys.{section_key_of}
use Rattle.scm_selection.specs.Toggle.{with_line_toggled}
use Rattle.scm_layout.specs.declared.file_counts.FileCounts.{FileCounts}
use Rattle.scm_layout.specs.declared.file_rows.FileRows.{FileRows}
use Rattle.scm_layout.specs.declared.section_counts.SectionCounts.{SectionCounts}
use Rattle.scm_layout.specs.declared.section_rows.SectionRows.{SectionRows}
use Rattle.scm_rows.specs.declared.section_shape.SectionShape.{SectionShape}
use Rattle.scm_rows.specs.declared.section_shape.SectionShape.TheVariants as shapes
use Rattle.scm_layout.specs.Counts.{file_counts, sections_counts}
use Rattle.scm_layout.specs.Rows.{each_file_rows, file_rows, folded_count, sections_height, sections_rows, stacked}

-- an empty line
abbrev empty : List ℕ
empty = []

-- a changed line
abbrev line : Bool → ChangeType → SectionChangedLine
line checked change = record { is_checked = checked; change_type = change; line = empty }

abbrev sample_sections : List Section
sample_sections =
    Unchanged (empty ∷ empty ∷ [])
    ∷ Changed (line true Removed ∷ line false Added ∷ [])
    ∷ FileMode true modes.Absent
    ∷ Unchanged (empty ∷ [])
    ∷ []

abbrev sample : File
sample = record { old_path = None; path = empty; file_mode = modes.Unix 420; sections = sample_sections }

-- the counts of a section
abbrev counts : ℕ → ℕ → ℕ → ℕ → SectionCounts
counts items checked editable lines = record { items = items; checked = checked; editable_before = editable; lines_before = lines }

-- the counts of a file with one mode
abbrev counts_in_file : ℕ → ℕ → ℕ → List SectionCounts → FileCounts
counts_in_file editable items checked sections = record { editable = editable; modes = 1; items = items; checked = checked; sections = sections }

sample-counts : file_counts sample ≡ counts_in_file 2 3 2 (counts 0 0 0 0 ∷ counts 2 1 0 2 ∷ counts 1 1 1 3 ∷ counts 0 0 2 3 ∷ [])
unfolding sections_counts
sample-counts = refl

-- the removed line is unchecked, and with it the deletion
unchecked-counts : file_counts (with_line_toggled 1 0 sample) ≡ counts_in_file 2 3 0 (counts 0 0 0 0 ∷ counts 2 0 0 2 ∷ counts 1 0 1 3 ∷ counts 0 0 2 3 ∷ [])
unfolding sections_counts
unchecked-counts = refl

-- the added line is checked
checked-counts : file_counts (with_line_toggled 1 1 sample) ≡ counts_in_file 2 3 3 (counts 0 0 0 0 ∷ counts 2 2 0 2 ∷ counts 1 1 1 3 ∷ counts 0 0 2 3 ∷ [])
unfolding sections_counts
checked-counts = refl

-- ---- rows

abbrev key : ℕ → FileKey
key i = record { commit_idx = 0; file_idx = i }

abbrev rows : ℕ → ℕ → SectionShape → SectionRows
rows top end shape = record { top = top; end = end; shape = shape }

abbrev rows_in_file : ℕ → ℕ → ℕ → List SectionRows → FileRows
rows_in_file top end folded sections = record { top = top; end = end; folded = folded; sections = sections }

-- the rows of the sections if the changed lines are folded
abbrev closed : List SectionRows
closed = rows 0 0 (shapes.Context 2) ∷ rows 0 1 shapes.Changed ∷ rows 1 2 shapes.Mark ∷ rows 2 2 (shapes.Context 1) ∷ []

-- the file and its changed lines are unfolded: the context above them is shown, that below the mode is not
open-rows : file_rows (keys.File (key 0) ∷ keys.Section (section_key_of (key 0) 1) ∷ []) (key 0) sample ≡ rows_in_file 0 7 0 (rows 0 2 (shapes.Context 2) ∷ rows 2 5 shapes.Changed ∷ rows 5 6 shapes.Mark ∷ rows 6 6 (shapes.Context 1) ∷ [])
unfolding sections_rows sections_height folded_count
open-rows = refl

-- the file alone is unfolded: no context is shown, and one section of changed lines is folded
folded-rows : file_rows (keys.File (key 0) ∷ []) (key 0) sample ≡ rows_in_file 0 3 1 closed
unfolding sections_rows sections_height folded_count
folded-rows = refl

-- the first file is folded, the second is unfolded
two-files : stacked 4 (each_file_rows (keys.File (key 1) ∷ []) 0 0 (sample ∷ sample ∷ []))
    ≡ rows_in_file 4 5 1 closed ∷ rows_in_file 5 8 1 closed ∷ []
unfolding stacked each_file_rows sections_rows sections_height folded_count
two-files = refl
