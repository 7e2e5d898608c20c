-- The keys of the changed lines. They enter and leave the set of expanded keys only all at once, so the code keeps a flag for them.
use Rattle.std.specs.Prelude.{Bool, true, false, not, List, ◌++◌, filter}
use Rattle.scm_types.specs.declared.file.File.{File}
use Rattle.scm_types.specs.declared.keys.SelectionKey.{SelectionKey}
use Rattle.scm_selection.specs.KeyLists.{all_keys, is_line}
use Rattle.scm_selection.specs.KeySet.{key_set}

-- the set of the keys of all changed lines
abbrev pub line_set : List File → List SelectionKey
line_set files = key_set (filter is_line (all_keys files))

-- the set of the keys of all files, and of all sections that are not context
abbrev pub set_without_lines : List File → List SelectionKey
set_without_lines files = key_set (filter (λ key. not (is_line key)) (all_keys files))

-- the set with the keys of all changed lines, if `has_all` is true; in the order of a set, lines come last
abbrev pub with_lines : Bool → List File → List SelectionKey → List SelectionKey
with_lines true files set = set ++ line_set files
with_lines false files set = set
