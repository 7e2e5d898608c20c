-- A range: all lines between two keys, in the order of the screen.
use Rattle.std.specs.Prelude.{ℕ, ◌+◌, Bool, true, false, not, ◌&&◌, ◌||◌, List, [], ◌∷◌, map, filter, Option, if◌then◌else◌}
use Rattle.scm_types.specs.declared.file.File.{File}
use Rattle.scm_types.specs.declared.keys.SelectionKey.{SelectionKey}
use Rattle.scm_types.specs.declared.section.Section.{Section}
use Rattle.scm_types.specs.declared.section.Section.TheVariants as sections
use Rattle.scm_selection.specs.KeyLists.{all_keys, is_line}
use Rattle.scm_front_items.specs.declared.targets.Deed.{Deed}
use Rattle.scm_front_items.specs.declared.targets.Deed.TheVariants.{Mark}
use Rattle.scm_front_items.specs.Search.{file_index, is_above, is_equal}
use Rattle.scm_front_items.specs.Targets.{target, is_marked}

-- whether a key stands from `first` on, and not below `last`
abbrev pub is_within : SelectionKey → SelectionKey → SelectionKey → Bool
is_within first last key = not (is_above key first) && not (is_above last key)

-- whether a key stands between two others, or is one of them, whichever of these stands above
abbrev pub is_between : SelectionKey → SelectionKey → SelectionKey → Bool
is_between a b key = is_within a b key || is_within b a key

-- whether a key is that of a line of the range
abbrev pub is_in_range : SelectionKey → SelectionKey → SelectionKey → Bool
is_in_range a b key = is_line key && is_between a b key

-- the lines of a range
abbrev pub lines_between : SelectionKey → SelectionKey → List File → List SelectionKey
lines_between a b files = filter (is_in_range a b) (all_keys files)

-- 1 if a file is another one than the last, which is the file before it, or none
abbrev pub other_file : Option ℕ → Option ℕ → ℕ
other_file file last = if is_equal file last then 0 else 1

-- how many files the keys are in that follow a key of file `last`, if those of a file follow one another
abbrev pub files_among : Option ℕ → List SelectionKey → ℕ
files_among last [] = 0
files_among last (key ∷ keys) = other_file (file_index key) last + files_among (file_index key) keys

-- the mark that lines get: the other one than that of the first
abbrev pub mark_for : List File → List SelectionKey → Bool
mark_for files [] = true
mark_for files (key ∷ keys) = not (is_marked files (target key true))

-- the deeds that set the marks of keys
abbrev pub marking : Bool → List SelectionKey → List Deed
marking mark keys = map (λ (key : SelectionKey). Mark (target key mark)) keys

-- whether a section changes the mode of its file
abbrev pub is_mode_section : Section → Bool
is_mode_section (sections.Unchanged lines) = false
is_mode_section (sections.Changed lines) = false
is_mode_section (sections.FileMode is_checked mode) = true
is_mode_section (sections.Binary is_checked old new) = false
