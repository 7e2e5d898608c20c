-- Where the selection moves to, on lists of keys.
use Rattle.std.specs.Prelude.{ℕ, zero, suc, ◌+◌, Bool, false, true, List, Option, Some, None, position, find, filter, slice_get, unwrap_or}
use Rattle.std.specs.List.{after_first}
use Rattle.scm_types.specs.declared.keys.SelectionKey.{SelectionKey}
use Rattle.scm_types.specs.declared.keys.SelectionKey.TheVariants as keys
use Rattle.scm_selection.specs.KeyLists.{is_file, is_section, is_line}
use Rattle.scm_selection.specs.KeySet.{is_key}

-- the key after an index of the list, or `key` if there is none; `otherwise` if no index is given
abbrev pub next_at : List SelectionKey → SelectionKey → SelectionKey → Option ℕ → SelectionKey
next_at list key otherwise None = otherwise
next_at list key otherwise (Some i) = unwrap_or (slice_get list (i + 1)) key

-- the key before an index of the list, or `key` if there is none; `otherwise` if no index is given
abbrev pub previous_at : List SelectionKey → SelectionKey → SelectionKey → Option ℕ → SelectionKey
previous_at list key otherwise None = otherwise
previous_at list key otherwise (Some zero) = key
previous_at list key otherwise (Some (suc i)) = unwrap_or (slice_get list i) key

-- the key after the selection in the list, the selection if it is the last, `otherwise` if it is not in the list
abbrev pub next_key : List SelectionKey → SelectionKey → SelectionKey → SelectionKey
next_key list selection otherwise = next_at list selection otherwise (position (is_key selection) list)

-- the key before the selection in the list, the selection if it is the first, `otherwise` if it is not in the list
abbrev pub previous_key : List SelectionKey → SelectionKey → SelectionKey → SelectionKey
previous_key list selection otherwise = previous_at list selection otherwise (position (is_key selection) list)

-- the keys of the list after a key
abbrev pub keys_behind : List SelectionKey → SelectionKey → List SelectionKey
keys_behind list key = after_first (is_key key) list

-- whether a key is that of a section or a line
abbrev pub is_in_file : SelectionKey → Bool
is_in_file keys.None = false
is_in_file (keys.File key) = false
is_in_file (keys.Section key) = true
is_in_file (keys.Line key) = true

-- whether a key is that of a file or a section
abbrev pub has_inside : SelectionKey → Bool
has_inside keys.None = false
has_inside (keys.File key) = true
has_inside (keys.Section key) = true
has_inside (keys.Line key) = false

-- whether a key is of the kind inside the selection: a section if that is a file, a line if it is a section
abbrev pub is_inside : SelectionKey → SelectionKey → Bool
is_inside keys.None key = false
is_inside (keys.File selection) key = is_section key
is_inside (keys.Section selection) key = is_line key
is_inside (keys.Line selection) key = false

-- the first key after the selection that is of the kind inside it, or the selection if there is none
abbrev pub inner_key : List SelectionKey → SelectionKey → SelectionKey
inner_key list selection = unwrap_or (find (is_inside selection) (keys_behind list selection)) selection

-- whether a key and the selection are both files, both sections or both lines
abbrev pub is_same_kind : SelectionKey → SelectionKey → Bool
is_same_kind keys.None key = false
is_same_kind (keys.File selection) key = is_file key
is_same_kind (keys.Section selection) key = is_section key
is_same_kind (keys.Line selection) key = is_line key

-- the keys of the selection's kind, in order
abbrev pub of_kind : List SelectionKey → SelectionKey → List SelectionKey
of_kind list selection = filter (is_same_kind selection) list
