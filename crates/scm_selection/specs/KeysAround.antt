-- The keys before and after a key of a state, and the keys at which a move stops. Indexes count from 0.
use Rattle.std.specs.Prelude.{ℕ, ◌+◌, Bool, false, ◌&&◌, List, [], ◌∷◌, ◌++◌, Option, Some, None, find, slice_get, take, drop, length, nat_eq, nat_lt, if◌then◌else◌}
use Rattle.std.specs.Option.{option_or}
use Rattle.scm_types.specs.declared.line.SectionChangedLine.{SectionChangedLine}
use Rattle.scm_types.specs.declared.section.Section.{Section}
use Rattle.scm_types.specs.declared.section.Section.TheVariants as sections
use Rattle.scm_types.specs.declared.file.File.{File}
use Rattle.scm_types.specs.Marks.{is_editable_section}
use Rattle.scm_types.specs.declared.keys.SelectionKey.{SelectionKey}
use Rattle.scm_types.specs.declared.keys.SelectionKey.TheVariants as keys
use Rattle.scm_selection.specs.declared.moves.Reach.{Reach}
use Rattle.scm_selection.specs.declared.moves.Reach.TheVariants as reaches
use Rattle.scm_selection.specs.KeyLists.{file_key, section_key, line_keys, sections_keys, files_keys, is_visible}
use Rattle.scm_selection.specs.Moves.{has_inside, is_in_file, is_inside, is_same_kind}

-- the sections of a file, or none if there is no file
abbrev pub sections_in : Option File → List Section
sections_in None = []
sections_in (Some file) = file.sections

-- the sections of file `file`, or none if there is no such file
abbrev pub sections_at : List File → ℕ → List Section
sections_at files file = sections_in (slice_get files file)

-- the changed lines of a section
abbrev pub lines_of : Section → List SectionChangedLine
lines_of (sections.Unchanged lines) = []
lines_of (sections.Changed lines) = lines
lines_of (sections.FileMode is_checked mode) = []
lines_of (sections.Binary is_checked old new) = []

-- the changed lines of a section, or none if there is no section
abbrev pub lines_in : Option Section → List SectionChangedLine
lines_in None = []
lines_in (Some section) = lines_of section

-- the changed lines of section `section` of `list`, or none if there is no such section
abbrev pub lines_at : List Section → ℕ → List SectionChangedLine
lines_at list section = lines_in (slice_get list section)

-- whether there is a section and it is not context
abbrev pub is_editable_in : Option Section → Bool
is_editable_in None = false
is_editable_in (Some section) = is_editable_section section

-- whether a key names a file, a section that is not context, or a changed line of the files
abbrev pub is_key_of : List File → SelectionKey → Bool
is_key_of files keys.None = false
is_key_of files (keys.File key) = nat_eq key.commit_idx 0 && nat_lt key.file_idx (length files)
is_key_of files (keys.Section key) =
    nat_eq key.commit_idx 0 && is_editable_in (slice_get (sections_at files key.file_idx) key.section_idx)
is_key_of files (keys.Line key) =
    nat_eq key.commit_idx 0 && nat_lt key.line_idx (length (lines_at (sections_at files key.file_idx) key.section_idx))

-- the keys after all keys of file `file`
abbrev pub keys_after_file : List File → ℕ → List SelectionKey
keys_after_file files file = files_keys (file + 1) (drop (file + 1) files)

-- the keys after all keys of section `section` of file `file`
abbrev pub keys_after_section : List File → ℕ → ℕ → List SelectionKey
keys_after_section files file section =
    sections_keys file (section + 1) (drop (section + 1) (sections_at files file)) ++ keys_after_file files file

-- the keys after a key of the files
abbrev pub keys_after : List File → SelectionKey → List SelectionKey
keys_after files keys.None = []
keys_after files (keys.File key) = sections_keys key.file_idx 0 (sections_at files key.file_idx) ++ keys_after_file files key.file_idx
keys_after files (keys.Section key) =
    line_keys key.file_idx key.section_idx 0 (lines_at (sections_at files key.file_idx) key.section_idx)
    ++ keys_after_section files key.file_idx key.section_idx
keys_after files (keys.Line key) =
    line_keys key.file_idx key.section_idx (key.line_idx + 1)
    (drop (key.line_idx + 1) (lines_at (sections_at files key.file_idx) key.section_idx))
    ++ keys_after_section files key.file_idx key.section_idx

-- the keys before all keys of file `file`
abbrev pub keys_before_file : List File → ℕ → List SelectionKey
keys_before_file files file = files_keys 0 (take file files)

-- the keys before all keys of section `section` of file `file`
abbrev pub keys_before_section : List File → ℕ → ℕ → List SelectionKey
keys_before_section files file section =
    keys_before_file files file ++ (file_key file ∷ sections_keys file 0 (take section (sections_at files file)))

-- the keys before a key of the files
abbrev pub keys_before : List File → SelectionKey → List SelectionKey
keys_before files keys.None = []
keys_before files (keys.File key) = keys_before_file files key.file_idx
keys_before files (keys.Section key) = keys_before_section files key.file_idx key.section_idx
keys_before files (keys.Line key) =
    keys_before_section files key.file_idx key.section_idx
    ++ (section_key key.file_idx key.section_idx
    ∷ line_keys key.file_idx key.section_idx 0 (take key.line_idx (lines_at (sections_at files key.file_idx) key.section_idx)))

-- whether a move stops at a key: at any visible one, at a visible one of the selection's kind, or at one of the kind inside it
abbrev pub is_stop : Reach → (SelectionKey → Bool) → SelectionKey → Bool
is_stop reaches.Visible is_expanded key = is_visible is_expanded key
is_stop (reaches.SameKind selection) is_expanded key = is_visible is_expanded key && is_same_kind selection key
is_stop (reaches.Inside selection) is_expanded key = is_inside selection key

-- whether a move may stop at a section or a line of file `file`: not if the file is folded and the move needs a visible key,
-- nor if the move stops at files alone or nowhere
abbrev pub may_stop_inside : Reach → (SelectionKey → Bool) → ℕ → Bool
may_stop_inside reaches.Visible is_expanded file = is_expanded (file_key file)
may_stop_inside (reaches.SameKind selection) is_expanded file = is_in_file selection && is_expanded (file_key file)
may_stop_inside (reaches.Inside selection) is_expanded file = has_inside selection

-- the last key of the list that passes the test
abbrev pub find_last : (SelectionKey → Bool) → List SelectionKey → Option SelectionKey
find_last test [] = None
find_last test (k ∷ ks) = option_or (find_last test ks) (if test k then Some k else None)

-- the first key of the list at which a move stops
abbrev pub first_stop : Reach → (SelectionKey → Bool) → List SelectionKey → Option SelectionKey
first_stop reach is_expanded list = find (is_stop reach is_expanded) list

-- the last key of the list at which a move stops
abbrev pub last_stop : Reach → (SelectionKey → Bool) → List SelectionKey → Option SelectionKey
last_stop reach is_expanded list = find_last (is_stop reach is_expanded) list
