-- What a step holds: the marks, before an action, of items that the action changes. A run of items has the marks of these.
use Rattle.std.specs.Prelude.{ℕ, ◌+◌, ◌-◌, ◌^◌, max, min, nat_le, nat_lt, Bool, true, false, not, ◌&&◌, ◌||◌, List, [], ◌∷◌, ◌++◌, map, filter, length, take, drop, slice_get, sum_by, Option, Some, None, if◌then◌else◌}
use Rattle.scm_types.specs.declared.file.File.{File}
use Rattle.scm_types.specs.declared.section.Section.{Section}
use Rattle.scm_types.specs.declared.keys.SelectionKey.{SelectionKey}
use Rattle.scm_types.specs.declared.keys.SelectionKey.TheVariants as keys
use Rattle.scm_types.specs.Marks.{section_marks}
use Rattle.scm_selection.specs.KeysAround.{sections_at}
use Rattle.scm_front_items.specs.declared.runs.Run.{Run}
use Rattle.scm_front_items.specs.declared.runs.Step.{Step}
use Rattle.scm_front_items.specs.Ranges.{is_mode_section}
use Rattle.scm_front_items.specs.Runs.{run_bytes}
use Rattle.scm_front_items.specs.Targets.{is_as, passes_if_there}

-- the marks of a section, or none if there is no section
abbrev pub marks_in : Option Section → List Bool
marks_in None = []
marks_in (Some section) = section_marks section

-- the marks of section `section` of file `file`
abbrev pub marks_at : List File → ℕ → ℕ → List Bool
marks_at files file section = marks_in (slice_get (sections_at files file) section)

-- a run by its fields
abbrev pub run_of : ℕ → ℕ → ℕ → List Bool → Run
run_of file section first marks = record { file = file; section = section; first = first; marks = marks }

-- ---- the runs of a state

-- the run of a whole section with these marks, if it has any
abbrev pub whole_run : ℕ → ℕ → List Bool → List Run
whole_run file section marks = if nat_lt 0 (length marks) then run_of file section 0 marks ∷ [] else []

-- the run of a section, or of a section that changes the mode of its file
abbrev pub section_run : Bool → ℕ → ℕ → Section → List Run
section_run modes_alone file index s =
    if not modes_alone || is_mode_section s then whole_run file index (section_marks s) else []

-- the runs of sections, or of those alone that change the mode of their file; the first one is section `index`
abbrev pub sections_runs : Bool → ℕ → ℕ → List Section → List Run
sections_runs modes_alone file index [] = []
sections_runs modes_alone file index (s ∷ ss) = section_run modes_alone file index s ++ sections_runs modes_alone file (index + 1) ss

-- the runs of file `index`, if it is one of `first` to `last`
abbrev pub file_runs : ℕ → ℕ → ℕ → File → List Run
file_runs first last index file =
    if nat_le first index && nat_le index last then sections_runs false index 0 file.sections else []

-- the same of each file; the first one is file `index`
abbrev pub files_runs : ℕ → ℕ → ℕ → List File → List Run
files_runs first last index [] = []
files_runs first last index (f ∷ fs) = file_runs first last index f ++ files_runs first last (index + 1) fs

-- the runs of files `first` to `last`, both included
abbrev pub runs_of_files : ℕ → ℕ → List File → List Run
runs_of_files first last files = files_runs first last 0 files

-- the number of the file that a key names or lies in, or 0
abbrev pub file_number : SelectionKey → ℕ
file_number keys.None = 0
file_number (keys.File key) = key.file_idx
file_number (keys.Section key) = key.file_idx
file_number (keys.Line key) = key.file_idx

-- whether that file is one of `first` to `last`
abbrev pub is_file_within : ℕ → ℕ → SelectionKey → Bool
is_file_within first last key = nat_le first (file_number key) && nat_le (file_number key) last

-- the runs of the files from one key to another, whichever of these stands above
abbrev pub runs_of_range : SelectionKey → SelectionKey → List File → List Run
runs_of_range a b files = runs_of_files (min (file_number a) (file_number b)) (max (file_number a) (file_number b)) files

-- what a toggle of section `index` may change: all of its file if it changes the file's mode, else itself and the sections that do
abbrev pub runs_of_section : ℕ → ℕ → List Section → Option Section → List Run
runs_of_section file index list None = []
runs_of_section file index list (Some s) =
    if is_mode_section s then sections_runs false file 0 list
    else sections_runs true file 0 list ++ whole_run file index (section_marks s)

-- the run of one item, if it has a mark
abbrev pub item_run : ℕ → ℕ → ℕ → Option Bool → List Run
item_run file section item None = []
item_run file section item (Some mark) = run_of file section item (mark ∷ []) ∷ []

-- The runs of all items whose marks a toggle of the key may change: of a file all; of a line itself, and the sections that change the
-- mode of its file.
abbrev pub runs_of_key : List File → SelectionKey → List Run
runs_of_key files keys.None = []
runs_of_key files (keys.File key) = runs_of_files key.file_idx key.file_idx files
runs_of_key files (keys.Section key) =
    let list = sections_at files key.file_idx in
    runs_of_section key.file_idx key.section_idx list (slice_get list key.section_idx)
runs_of_key files (keys.Line key) =
    sections_runs true key.file_idx 0 (sections_at files key.file_idx)
    ++ item_run key.file_idx key.section_idx key.line_idx (slice_get (marks_at files key.file_idx key.section_idx) key.line_idx)

-- ---- what changed

-- whether the marks of `all` from index `first` on are these, as far as there are any
abbrev pub agree : ℕ → List Bool → List Bool → Bool
agree first [] all = true
agree first (mark ∷ marks) all = passes_if_there (is_as mark) (slice_get all first) && agree (first + 1) marks all

-- whether the items of a run have its marks in the files
abbrev pub is_as_run : List File → Run → Bool
is_as_run files r = agree r.first r.marks (marks_at files r.file r.section)

-- the runs whose items have other marks in the files
abbrev pub changed_runs : List File → List Run → List Run
changed_runs files runs = filter (λ (r : Run). not (is_as_run files r)) runs

-- the bytes of runs, saturating at 2^64 - 1
abbrev pub bytes_of_runs : List Run → ℕ
bytes_of_runs runs = min (sum_by run_bytes runs) (2 ^ 64 - 1)

-- a step by its runs
abbrev pub step_of : List Run → Step
step_of runs = record { runs = runs; bytes = bytes_of_runs runs }

-- the step that an action leaves, if these are the runs before it, and `files` the files after it
abbrev pub changed_step : List File → List Run → Step
changed_step files runs = step_of (changed_runs files runs)

-- ---- the same items in another state

-- the items of a run with their marks in the files; items that are not there are left out
abbrev pub run_now : List File → Run → Run
run_now files r = record r { marks = take (length r.marks) (drop r.first (marks_at files r.file r.section)) }

abbrev pub runs_now : List File → List Run → List Run
runs_now files runs = map (run_now files) runs
