-- What a toggle changes of the counts. Only contracts within this crate cite these definitions.
use Rattle.std.specs.Prelude.{◌≡◌, ℕ, ◌+◌, ◌-◌, ◌≤◌, ◌==◌, List, [], ◌∷◌, map, sum_by, Bool, true, false, not, ◌&&◌, ◌||◌, if◌then◌else◌, Option, Some, None, slice_get, option_and_then}
use Rattle.scm_types.specs.declared.file.File.{File}
use Rattle.scm_types.specs.declared.keys.LineKey.{LineKey}
use Rattle.scm_types.specs.declared.section.Section.{Section}
use Rattle.scm_types.specs.declared.section.Section.TheVariants.{Unchanged, Changed, FileMode, Binary}
use Rattle.scm_types.specs.Edits.{modify}
use Rattle.scm_types.specs.Limits.{file_size, max_items}
use Rattle.scm_types.specs.Marks.{file_with_marks}
use Rattle.scm_types.specs.Mode.{is_absent}
use Rattle.scm_selection.specs.Toggle.{line_mark, with_line_toggled}
use Rattle.scm_layout.specs.declared.section_counts.SectionCounts.{SectionCounts}
use Rattle.scm_layout.specs.declared.file_counts.FileCounts.{FileCounts}
use Rattle.scm_layout.specs.declared.marked.Share.{Share}
use Rattle.scm_layout.specs.declared.state_counts.StateCounts.{StateCounts}
use Rattle.scm_layout.specs.Counts.{checked_in, counts_of, file_counts}
use Rattle.scm_layout.specs.Marked.{changed_in_file, checked_in_file, part_at}

-- each of `xs` changed by what stands at its index in `ys`; those past the end of `ys` are unchanged
abbrev pub zipped : {A B : Type 0} → (A → B → A) → List A → List B → List A
zipped f xs [] = xs
zipped f [] (y ∷ ys) = []
zipped f (x ∷ xs) (y ∷ ys) = f x y ∷ zipped f xs ys

-- ---- a section

-- the counts with this number of checked items
abbrev pub with_checked : ℕ → SectionCounts → SectionCounts
with_checked checked c = record c { checked = checked }

-- the counts of a section after its items were counted anew
abbrev pub recounted : SectionCounts → Section → SectionCounts
recounted c section = with_checked (checked_in section) c

-- the number of checked items of a section after its mark was counted anew, if it is a mode or a binary, and was `checked` before
abbrev pub checked_after_mark : ℕ → Section → ℕ
checked_after_mark checked (Unchanged lines) = checked
checked_after_mark checked (Changed lines) = checked
checked_after_mark checked (FileMode is_checked mode) = if is_checked then 1 else 0
checked_after_mark checked (Binary is_checked old new) = if is_checked then 1 else 0

-- the counts of a section after its mark was counted anew, if it is a mode or a binary
abbrev pub remarked : SectionCounts → Section → SectionCounts
remarked c section = with_checked (checked_after_mark c.checked section) c

-- one checked item more, or one less
abbrev pub stepped : Bool → ℕ → ℕ
stepped true n = n + 1
stepped false n = n - 1

-- the counts of a section after one of its lines was checked or unchecked
abbrev pub with_line_counted : Bool → SectionCounts → SectionCounts
with_line_counted checked c = with_checked (stepped checked c.checked) c

-- ---- a file

-- how many items are checked in sections with these counts
abbrev pub total_checked : List SectionCounts → ℕ
total_checked counts = sum_by (λ (c : SectionCounts). c.checked) counts

-- how many items they have
abbrev pub total_items : List SectionCounts → ℕ
total_items counts = sum_by (λ (c : SectionCounts). c.items) counts

-- the counts of a file with these counts of its sections
abbrev pub with_sections : List SectionCounts → FileCounts → FileCounts
with_sections sections c = record c { checked = total_checked sections; sections = sections }

-- the counts of a file after a line of section `section` was checked or unchecked, without the marks that follow
abbrev pub with_file_line_counted : Bool → ℕ → FileCounts → FileCounts
with_file_line_counted checked section c = record c {
  checked = stepped checked c.checked;
  sections = modify (with_line_counted checked) c.sections section;
}

-- whether a file with these counts has a section that changes the mode
abbrev pub has_modes : FileCounts → Bool
has_modes c = not (c.modes == 0)

-- whether other marks may follow when a line of a file with these counts was checked or unchecked
abbrev pub may_follow : FileCounts → File → Bool → Bool
may_follow c file checked = has_modes c && (not checked || is_absent file.file_mode)

-- the counts are those of a file that differs from `file` in marks alone
pub record AreCountsButMarks (c : FileCounts) (file : File) : Type 0 where
  pub before : File
  pub counts : c ≡ file_counts before
  pub same : file_with_marks (λ _. false) before ≡ file_with_marks (λ _. false) file
  pub fits : file_size before ≤ max_items

-- the counts are those of a file that became `file` when a line of section `section` was set to `checked`
pub record AreCountsButLine (c : FileCounts) (file : File) (section : ℕ) (checked : Bool) : Type 0 where
  pub before : File
  pub line : ℕ
  pub counts : c ≡ file_counts before
  pub mark : option_and_then (line_mark line) (slice_get before.sections section) ≡ Some (not checked)
  pub after : file ≡ with_line_toggled section line before
  pub fits : file_size before ≤ max_items

-- ---- the files of a state

-- the counts of `files`
abbrev pub files_counts : List File → List FileCounts
files_counts files = map file_counts files

-- whether there are counts, of a file that has a section that changes the mode
abbrev pub has_modes_in : Option FileCounts → Bool
has_modes_in None = false
has_modes_in (Some c) = has_modes c

-- whether file `index` has a section that changes the mode, by the counts of the files
abbrev pub has_modes_at : List FileCounts → ℕ → Bool
has_modes_at counts index = has_modes_in (slice_get counts index)

-- the mark of the line of a file that a key names, if there is such a changed line
abbrev pub line_mark_in : LineKey → File → Option Bool
line_mark_in key file = option_and_then (line_mark key.line_idx) (slice_get file.sections key.section_idx)

-- the mark of the line that a key names, if there is such a changed line
abbrev pub line_mark_at : LineKey → List File → Option Bool
line_mark_at key files = option_and_then (line_mark_in key) (slice_get files key.file_idx)

-- the counts are those of files that became `files` when marks of file `index` changed
pub record AreCountsButFile (counts : List FileCounts) (files : List File) (index : ℕ) : Type 0 where
  pub before : List File
  pub change : File → File
  pub is_counted : counts ≡ files_counts before
  pub after : files ≡ modify change before index
  pub same : (file : File) → file_with_marks (λ _. false) (change file) ≡ file_with_marks (λ _. false) file
  pub fits : sum_by file_size before ≤ max_items

-- the counts are those of files that became `files` when the line that a key names was set to `checked`
pub record AreCountsButLineAt (counts : List FileCounts) (files : List File) (key : LineKey) (checked : Bool) : Type 0 where
  pub before : List File
  pub is_counted : counts ≡ files_counts before
  pub mark : line_mark_at key before ≡ Some (not checked)
  pub after : files ≡ modify (with_line_toggled key.section_idx key.line_idx) before key.file_idx
  pub fits : sum_by file_size before ≤ max_items

-- the counts are those of files that differ from `files` in marks alone
pub record AreCountsButAllMarks (counts : List FileCounts) (files : List File) : Type 0 where
  pub before : List File
  pub is_counted : counts ≡ files_counts before
  pub same : map (file_with_marks (λ _. false)) before ≡ map (file_with_marks (λ _. false)) files
  pub fits : sum_by file_size before ≤ max_items

-- ---- the totals of a state

-- what file `index` adds to the totals of `files`
abbrev pub share_at : List File → ℕ → Share
share_at files index = record { lines = part_at checked_in_file files index; changed = part_at changed_in_file files index }

-- the counts with `before` taken from the totals, and `after` added
abbrev pub exchanged : StateCounts → Share → Share → StateCounts
exchanged c before after = record c {
  checked_lines = c.checked_lines - before.lines + after.lines;
  changed_files = c.changed_files - before.changed + after.changed;
}

-- the counts are those of files that became `files` when marks of file `index` changed, which added `share` to the totals
pub record AreStateCountsButFile (c : StateCounts) (files : List File) (index : ℕ) (share : Share) : Type 0 where
  pub before : List File
  pub change : File → File
  pub is_counted : c ≡ counts_of before
  pub after : files ≡ modify change before index
  pub same : (file : File) → file_with_marks (λ _. false) (change file) ≡ file_with_marks (λ _. false) file
  pub share_is : share ≡ share_at before index
  pub fits : sum_by file_size before ≤ max_items

-- the counts are those of files that became `files` when the line that a key names was set to `checked`; its file added `changed` to the number of changed files
pub record AreStateCountsButLine (c : StateCounts) (files : List File) (key : LineKey) (checked : Bool) (changed : ℕ) : Type 0 where
  pub before : List File
  pub is_counted : c ≡ counts_of before
  pub mark : line_mark_at key before ≡ Some (not checked)
  pub after : files ≡ modify (with_line_toggled key.section_idx key.line_idx) before key.file_idx
  pub changed_is : changed ≡ part_at changed_in_file before key.file_idx
  pub fits : sum_by file_size before ≤ max_items
