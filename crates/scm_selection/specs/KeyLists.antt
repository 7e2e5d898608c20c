-- The keys of a state in the order of the screen, and which of them are visible. Indexes count from 0.
use Rattle.std.specs.Prelude.{ℕ, ◌+◌, Bool, true, false, ◌&&◌, List, [], ◌∷◌, ◌++◌, filter}
use Rattle.scm_types.specs.declared.line.SectionChangedLine.{SectionChangedLine}
use Rattle.scm_types.specs.declared.section.Section.{Section}
use Rattle.scm_types.specs.declared.section.Section.TheVariants as sections
use Rattle.scm_types.specs.declared.file.File.{File}
use Rattle.scm_types.specs.declared.keys.SelectionKey.{SelectionKey}
use Rattle.scm_types.specs.declared.keys.SelectionKey.TheVariants as keys
use Rattle.scm_types.specs.Keys.{file_of_section, file_of_line, section_of_line}

-- the key of file `file` in the view of the first commit
abbrev pub file_key : ℕ → SelectionKey
file_key file = keys.File (record { commit_idx = 0; file_idx = file })

-- the key of section `section` of file `file` in the view of the first commit
abbrev pub section_key : ℕ → ℕ → SelectionKey
section_key file section = keys.Section (record { commit_idx = 0; file_idx = file; section_idx = section })

-- the key of line `line` of a section in the view of the first commit
abbrev pub line_key : ℕ → ℕ → ℕ → SelectionKey
line_key file section line =
    keys.Line (record { commit_idx = 0; file_idx = file; section_idx = section; line_idx = line })

-- a key for each changed line; the first one is line `line`
abbrev pub line_keys : ℕ → ℕ → ℕ → List SectionChangedLine → List SelectionKey
line_keys file section line [] = []
line_keys file section line (l ∷ ls) = line_key file section line ∷ line_keys file section (line + 1) ls

-- the keys of a section: none if it is context, else its own key and those of its changed lines
abbrev pub section_keys : ℕ → ℕ → Section → List SelectionKey
section_keys file section (sections.Unchanged lines) = []
section_keys file section (sections.Changed lines) = section_key file section ∷ line_keys file section 0 lines
section_keys file section (sections.FileMode is_checked mode) = section_key file section ∷ []
section_keys file section (sections.Binary is_checked old new) = section_key file section ∷ []

-- the keys of sections; the first one is section `section`
abbrev pub sections_keys : ℕ → ℕ → List Section → List SelectionKey
sections_keys file section [] = []
sections_keys file section (s ∷ ss) = section_keys file section s ++ sections_keys file (section + 1) ss

-- the keys of files, each file's own key before those of its sections; the first one is file `file`
abbrev pub files_keys : ℕ → List File → List SelectionKey
files_keys file [] = []
files_keys file (f ∷ fs) = (file_key file ∷ sections_keys file 0 f.sections) ++ files_keys (file + 1) fs

-- all keys of the files
abbrev pub all_keys : List File → List SelectionKey
all_keys files = files_keys 0 files

-- whether a key is visible: each file is, a section if its file is expanded, a line if its file and its section are
abbrev pub is_visible : (SelectionKey → Bool) → SelectionKey → Bool
is_visible is_expanded keys.None = false
is_visible is_expanded (keys.File key) = true
is_visible is_expanded (keys.Section key) = is_expanded (keys.File (file_of_section key))
is_visible is_expanded (keys.Line key) =
    is_expanded (keys.File (file_of_line key)) && is_expanded (keys.Section (section_of_line key))

-- the visible keys of the files
abbrev pub visible_keys : (SelectionKey → Bool) → List File → List SelectionKey
visible_keys is_expanded files = filter (is_visible is_expanded) (all_keys files)

-- the key of the first file, if there is one
abbrev pub first_key : List File → SelectionKey
first_key [] = keys.None
first_key (f ∷ fs) = file_key 0

-- whether a key is that of a file
abbrev pub is_file : SelectionKey → Bool
is_file keys.None = false
is_file (keys.File key) = true
is_file (keys.Section key) = false
is_file (keys.Line key) = false

-- whether a key is that of a section
abbrev pub is_section : SelectionKey → Bool
is_section keys.None = false
is_section (keys.File key) = false
is_section (keys.Section key) = true
is_section (keys.Line key) = false

-- whether a key is that of a line
abbrev pub is_line : SelectionKey → Bool
is_line keys.None = false
is_line (keys.File key) = false
is_line (keys.Section key) = false
is_line (keys.Line key) = true
