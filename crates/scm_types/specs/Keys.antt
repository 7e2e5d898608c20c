-- Keys: their parts and what they lie in, equal keys, and keys in a list.
use Rattle.std.specs.Prelude.{ℕ, Bool, true, false, ◌&&◌, List, [], ◌∷◌, nat_eq}
use Rattle.std.specs.List.{list_any}
use Rattle.scm_types.specs.declared.keys.FileKey.{FileKey}
use Rattle.scm_types.specs.declared.keys.SectionKey.{SectionKey}
use Rattle.scm_types.specs.declared.keys.LineKey.{LineKey}
use Rattle.scm_types.specs.declared.keys.SelectionKey.{SelectionKey}
use Rattle.scm_types.specs.declared.keys.SelectionKey.TheVariants as keys

-- the key of section `i` of a file, counted from 0
abbrev pub section_key_of : FileKey → ℕ → SectionKey
section_key_of k i = record { commit_idx = k.commit_idx; file_idx = k.file_idx; section_idx = i }

-- the key of line `i` of a section, counted from 0
abbrev pub line_key_of : SectionKey → ℕ → LineKey
line_key_of k i = record { commit_idx = k.commit_idx; file_idx = k.file_idx; section_idx = k.section_idx; line_idx = i }

-- the key of a section's file
abbrev pub file_of_section : SectionKey → FileKey
file_of_section k = record { commit_idx = k.commit_idx; file_idx = k.file_idx }

-- the key of a line's section
abbrev pub section_of_line : LineKey → SectionKey
section_of_line k = record { commit_idx = k.commit_idx; file_idx = k.file_idx; section_idx = k.section_idx }

-- the key of a line's file
abbrev pub file_of_line : LineKey → FileKey
file_of_line k = record { commit_idx = k.commit_idx; file_idx = k.file_idx }

-- the key of the file that a key names or lies in, or `None` for `None`
abbrev pub file_of : SelectionKey → SelectionKey
file_of keys.None = keys.None
file_of (keys.File key) = keys.File key
file_of (keys.Section key) = keys.File (file_of_section key)
file_of (keys.Line key) = keys.File (file_of_line key)

-- the kind of a key, and then its indexes
abbrev pub numbers_of : SelectionKey → List ℕ
numbers_of keys.None = 0 ∷ []
numbers_of (keys.File key) = 1 ∷ key.commit_idx ∷ key.file_idx ∷ []
numbers_of (keys.Section key) = 2 ∷ key.commit_idx ∷ key.file_idx ∷ key.section_idx ∷ []
numbers_of (keys.Line key) = 3 ∷ key.commit_idx ∷ key.file_idx ∷ key.section_idx ∷ key.line_idx ∷ []

-- whether two lists of numbers are equal
abbrev pub same_numbers : List ℕ → List ℕ → Bool
same_numbers [] [] = true
same_numbers [] (n ∷ ns) = false
same_numbers (m ∷ ms) [] = false
same_numbers (m ∷ ms) (n ∷ ns) = nat_eq m n && same_numbers ms ns

-- whether two keys are equal
abbrev pub is_key : SelectionKey → SelectionKey → Bool
is_key a b = same_numbers (numbers_of a) (numbers_of b)

-- whether the list `set` contains `key`
abbrev pub has_key : List SelectionKey → SelectionKey → Bool
has_key set key = list_any (is_key key) set
