-- The rows of the files and sections of a state, from the keys that are unfolded. Indexes count from 0.
use Rattle.std.specs.Prelude.{◌≡◌, ℕ, suc, ◌+◌, ◌-◌, List, [], ◌∷◌, length, Bool, true, false, not, ◌&&◌, Some, slice_get, if◌then◌else◌}
use Rattle.scm_types.specs.declared.file.File.{File}
use Rattle.scm_types.specs.declared.keys.FileKey.{FileKey}
use Rattle.scm_types.specs.declared.keys.SelectionKey.{SelectionKey}
use Rattle.scm_types.specs.declared.keys.SelectionKey.TheVariants as keys
use Rattle.scm_types.specs.declared.section.Section.{Section}
use Rattle.scm_types.specs.Keys.{has_key, section_key_of}
use Rattle.scm_types.specs.Marks.{is_editable_section}
use Rattle.scm_rows.specs.declared.section_shape.SectionShape.{SectionShape}
use Rattle.scm_rows.specs.Context.{place}
use Rattle.scm_rows.specs.Heights.{is_section_open, shape_of, shown_height}
use Rattle.scm_rows.specs.Lines.{is_changed}
use Rattle.scm_layout.specs.declared.section_rows.SectionRows.{SectionRows}
use Rattle.scm_layout.specs.declared.file_rows.FileRows.{FileRows}
use Rattle.scm_layout.specs.declared.state_rows.StateRows.{StateRows}

-- ---- the rows of the sections of a file

-- whether section i of file k is unfolded
abbrev pub is_expanded : List SelectionKey → FileKey → ℕ → Bool
is_expanded set k i = has_key set (keys.Section (section_key_of k i))

-- whether section i of file k is open: editable and unfolded
abbrev pub is_open : List SelectionKey → FileKey → ℕ → Section → Bool
is_open set k i section = is_section_open (is_expanded set k i) section

-- whether there is a section, which has index i, and it is open
abbrev pub is_first_open : List SelectionKey → FileKey → ℕ → List Section → Bool
is_first_open set k i [] = false
is_first_open set k i (section ∷ more) = is_open set k i section

-- how many rows section i of file k has: 0 if it is context and no open section is before or after it
abbrev pub visible_height : List SelectionKey → FileKey → ℕ → ℕ → Bool → Section → Bool → ℕ
visible_height set k total i before section after = shown_height (place total i) (is_expanded set k i) before section after

-- the rows of a section of shape `shape`, which has `height` rows from row `top` on
abbrev pub rows_at : ℕ → ℕ → SectionShape → SectionRows
rows_at top height shape = record { top = top; end = top + height; shape = shape }

-- the rows of the sections of file k from section i on, which begins on row `top` of the file's; `before` says whether the section above is open
unfoldable pub sections_rows : List SelectionKey → FileKey → ℕ → ℕ → ℕ → Bool → List Section → List SectionRows
sections_rows set k total i top before [] = []
sections_rows set k total i top before (section ∷ more) =
    rows_at top (visible_height set k total i before section (is_first_open set k (suc i) more)) (shape_of section)
    ∷ sections_rows set k total (suc i) (top + visible_height set k total i before section (is_first_open set k (suc i) more)) (is_open set k i section) more

-- how many rows the sections of file k from section i on have
unfoldable pub sections_height : List SelectionKey → FileKey → ℕ → ℕ → Bool → List Section → ℕ
sections_height set k total i before [] = 0
sections_height set k total i before (section ∷ more) =
    visible_height set k total i before section (is_first_open set k (suc i) more)
    + sections_height set k total (suc i) (is_open set k i section) more

-- 1 if section i of file k has changed lines and is folded, else 0
abbrev pub fold_count : List SelectionKey → FileKey → ℕ → Section → ℕ
fold_count set k i section = if is_changed section && not (is_expanded set k i) then 1 else 0

-- how many sections of changed lines of file k are folded, from section i on
unfoldable pub folded_count : List SelectionKey → FileKey → ℕ → List Section → ℕ
folded_count set k i [] = 0
folded_count set k i (section ∷ more) = fold_count set k i section + folded_count set k (suc i) more

-- ---- the rows of the files

-- how many rows file k has
abbrev pub file_height : List SelectionKey → FileKey → File → ℕ
file_height set k f =
    1 + (if has_key set (keys.File k) then sections_height set k (length f.sections) 0 false f.sections else 0)

-- the rows of file k from row 0 on
abbrev pub file_rows : List SelectionKey → FileKey → File → FileRows
file_rows set k f = record {
  top = 0;
  end = file_height set k f;
  folded = folded_count set k 0 f.sections;
  sections = sections_rows set k (length f.sections) 0 0 false f.sections;
}

-- the key of file i of a commit
abbrev pub file_key_of : ℕ → ℕ → FileKey
file_key_of commit i = record { commit_idx = commit; file_idx = i }

-- the rows of each file from row 0 on; the first file has index i
unfoldable pub each_file_rows : List SelectionKey → ℕ → ℕ → List File → List FileRows
each_file_rows set commit i [] = []
each_file_rows set commit i (f ∷ fs) = file_rows set (file_key_of commit i) f ∷ each_file_rows set commit (suc i) fs

-- the file's rows, moved to row `top`
abbrev pub moved_to : ℕ → FileRows → FileRows
moved_to top r = record r { top = top; end = top + (r.end - r.top) }

-- files one below the other from row `top` on
unfoldable pub stacked : ℕ → List FileRows → List FileRows
stacked top [] = []
stacked top (r ∷ rs) = moved_to top r ∷ stacked (top + (r.end - r.top)) rs

-- the rows of the files of a commit, the first of which begins on row `top`
abbrev pub rows_of : List SelectionKey → ℕ → ℕ → List File → StateRows
rows_of set commit top files = record { files = stacked top (each_file_rows set commit 0 files) }

-- the rows of files, moved so that the first begins on row `top`
abbrev pub restacked : ℕ → StateRows → StateRows
restacked top rows = record { files = stacked top rows.files }

-- ---- everything unfolded

-- all sections of file k that are not context are unfolded
abbrev pub HasAllSections : List SelectionKey → FileKey → List Section → Type 0
HasAllSections set k sections =
    (i : ℕ) (section : Section)
    → slice_get sections i ≡ Some section → is_editable_section section ≡ true → is_expanded set k i ≡ true

-- file k is unfolded, and so are all its sections that are not context
abbrev pub HasFile : List SelectionKey → FileKey → File → Type 0
HasFile set k file = (has_key set (keys.File k) ≡ true) × HasAllSections set k file.sections

-- all these files of a commit are unfolded, and all their sections that are not context
abbrev pub HasAllFiles : List SelectionKey → ℕ → List File → Type 0
HasAllFiles set commit files =
    (i : ℕ) (file : File) → slice_get files i ≡ Some file → HasFile set (file_key_of commit i) file
