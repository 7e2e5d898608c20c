-- What a fold changes of the rows. Only contracts of this crate cite these definitions.
use Rattle.std.specs.Prelude.{◌≡◌, ◌≢◌, ℕ, ◌+◌, ◌-◌, ◌==◌, ◌≤◌, List, [], ◌∷◌, length, map, drop, sum_by, Bool, false, not, Option, Some, None, if◌then◌else◌}
use Rattle.scm_types.specs.declared.file.File.{File}
use Rattle.scm_types.specs.declared.keys.FileKey.{FileKey}
use Rattle.scm_types.specs.declared.keys.SelectionKey.{SelectionKey}
use Rattle.scm_types.specs.declared.keys.SelectionKey.TheVariants as keys
use Rattle.scm_types.specs.declared.section.Section.{Section}
use Rattle.scm_types.specs.Keys.{file_of, file_of_section, has_key, is_key}
use Rattle.scm_types.specs.Limits.{file_size, max_items}
use Rattle.scm_rows.specs.Lines.{is_changed}
use Rattle.scm_layout.specs.declared.section_rows.SectionRows.{SectionRows}
use Rattle.scm_layout.specs.declared.file_rows.FileRows.{FileRows}
use Rattle.scm_layout.specs.SectionStack.{tops_of}
use Rattle.scm_layout.specs.Rows.{each_file_rows, folded_count, is_expanded, is_first_open, sections_height, sections_rows, stacked}

-- ---- the rows of some sections of a file

-- whether there is a section above section i of file k, and it is open
abbrev pub is_open_above : List SelectionKey → FileKey → ℕ → List Section → Bool
is_open_above set k i sections = if i == 0 then false else is_first_open set k (i - 1) (drop (i - 1) sections)

-- the rows of the sections of file k from section i on, which begins on row `top` of the file's
abbrev pub rows_from : List SelectionKey → FileKey → ℕ → ℕ → List Section → List SectionRows
rows_from set k i top sections =
    sections_rows set k (length sections) i top (is_open_above set k i sections) (drop i sections)

-- how many rows the sections of file k from section i on have
abbrev pub height_from : List SelectionKey → FileKey → ℕ → List Section → ℕ
height_from set k i sections = sections_height set k (length sections) i (is_open_above set k i sections) (drop i sections)

-- the end of the last of the rows, exclusive, or `top` if there are none
abbrev pub last_end : ℕ → List SectionRows → ℕ
last_end top [] = top
last_end top (r ∷ rs) = last_end r.end rs

-- the rows of a section after row `from` moved to row `to`
abbrev pub moved_rows : ℕ → ℕ → SectionRows → SectionRows
moved_rows from to r = record r { top = to + (r.top - from); end = to + (r.end - from) }

-- all rows are from `from` to `until`
abbrev pub AreBetween : ℕ → ℕ → List ℕ → Type 0
AreBetween from until [] = Unit {0}
AreBetween from until (row ∷ rows) = (from ≤ row) × (row ≤ until) × AreBetween from until rows

-- ---- a section that is folded or unfolded

-- the rows are those of the sections of file k before section i was folded or unfolded, and with it the keys became `set`
pub record AreRowsButSection (rows : List SectionRows) (set : List SelectionKey) (k : FileKey) (sections : List Section) (i : ℕ) : Type 0 where
  pub before : List SelectionKey
  pub is_it : rows ≡ sections_rows before k (length sections) 0 0 false sections
  pub agree : (m : ℕ) → m ≢ i → is_expanded set k m ≡ is_expanded before k m

-- sections of file k began on the rows `tops`, and the last one ended at `last`, before section i was folded or unfolded, and with it the keys became `set`
pub record AreTopsButSection (tops : List ℕ) (last : ℕ) (set : List SelectionKey) (k : FileKey) (sections : List Section) (i : ℕ) : Type 0 where
  pub before : List SelectionKey
  pub at : tops ≡ tops_of (sections_rows before k (length sections) 0 0 false sections)
  pub tall : last ≡ sections_height before k (length sections) 0 false sections
  pub agree : (m : ℕ) → m ≢ i → is_expanded set k m ≡ is_expanded before k m

-- how many sections of changed lines are folded after `section` was unfolded, or folded, if `folded` were before
abbrev pub folded_after : ℕ → Section → Bool → ℕ
folded_after folded section is_unfolded =
    if is_changed section then (if is_unfolded then folded - 1 else folded + 1) else folded

-- ---- a key that is folded or unfolded

-- the sets differ in `key` alone: one of them has it, the other has not
pub record DifferIn (ks ls : List SelectionKey) (key : SelectionKey) : Type 0 where
  pub at : has_key ks key ≡ not (has_key ls key)
  pub others : (x : SelectionKey) → is_key x key ≡ false → has_key ks x ≡ has_key ls x

-- the file's rows are those of file k before `key`, which names or lies in it, was folded or unfolded, and the keys became `set`
pub record AreRowsButKey (r : FileRows) (set : List SelectionKey) (k : FileKey) (f : File) (key : SelectionKey) : Type 0 where
  pub before : List SelectionKey
  pub sections : r.sections ≡ sections_rows before k (length f.sections) 0 0 false f.sections
  pub folded : r.folded ≡ folded_count before k 0 f.sections
  pub differ : DifferIn set before key
  pub within : file_of key ≡ keys.File k
  pub fits : file_size f ≤ max_items

-- the index of file k, if it is of this commit
abbrev pub index_in : ℕ → FileKey → Option ℕ
index_in commit k = if k.commit_idx == commit then Some k.file_idx else None

-- the index of the file of a commit whose rows the fold of a key changes: that of a file or of a section
abbrev pub file_index : ℕ → SelectionKey → Option ℕ
file_index commit keys.None = None
file_index commit (keys.File key) = index_in commit key
file_index commit (keys.Section key) = index_in commit (file_of_section key)
file_index commit (keys.Line key) = None

-- ---- the rows of files

-- how many rows the files have together
abbrev pub total_height : List FileRows → ℕ
total_height rows = sum_by (λ (r : FileRows). r.end - r.top) rows

-- there are rows of each file and of each of its sections, and the files are within the limit for a state
pub record AreRowsOfFiles (rows : List FileRows) (files : List File) : Type 0 where
  pub lengths : map (λ (r : FileRows). length r.sections) rows ≡ map (λ (f : File). length f.sections) files
  pub fits : length files + sum_by file_size files ≤ max_items

-- the rows are those of `files` before `key` was folded or unfolded, and the keys became `set`
pub record AreFilesButKey (rows : List FileRows) (set : List SelectionKey) (commit : ℕ) (files : List File) (key : SelectionKey) : Type 0 where
  pub before : List SelectionKey
  pub top : ℕ
  pub is_it : rows ≡ stacked top (each_file_rows before commit 0 files)
  pub differ : DifferIn set before key
  pub fits : length files + sum_by file_size files ≤ max_items
