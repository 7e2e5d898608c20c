-- Paths that name a file below the top folder, and nothing else on any file system.
use Rattle.std.specs.Prelude.{ℕ, ◌==◌, ◌&&◌, List, [], ◌∷◌, length, slice_index, Bool, false, Option, Some, None, if◌then◌else◌, codes}
use Rattle.std.specs.List.{list_any, slice_split}
use Rattle.std.specs.Option.{option_or}
use Rattle.scm_tree.specs.declared.names.PathFault.{PathFault}
use Rattle.scm_tree.specs.declared.names.PathFault.TheVariants.{EmptyName, Dot, DotDot, GitFolder, JjFolder, Nul}
use Rattle.scm_tree.specs.Folding.{is_taken_for}

-- whether the byte is `/`
abbrev pub is_slash : ℕ → Bool
is_slash b = b == 47

-- whether the name is `.`
abbrev pub is_dot : List ℕ → Bool
is_dot name = if length name == 1 then slice_index name 0 == 46 else false

-- whether the name is `..`
abbrev pub is_dots : List ℕ → Bool
is_dots name = if length name == 2 then (slice_index name 0 == 46) && (slice_index name 1 == 46) else false

-- whether a file system takes the name for git's folder
unfoldable pub is_git : List ℕ → Bool
is_git name = is_taken_for (codes ".git") (codes "git~1") name

-- whether a file system takes the name for jj's folder
unfoldable pub is_jj : List ℕ → Bool
is_jj name = is_taken_for (codes ".jj") (codes "jj~1") name

-- whether the name has a NUL byte
abbrev pub has_nul : List ℕ → Bool
has_nul name = list_any (λ b. b == 0) name

-- what is wrong with a name, if anything is
unfoldable pub name_fault : List ℕ → Option PathFault
name_fault name =
    if length name == 0 then Some EmptyName
    else if is_dot name then Some Dot
    else if is_dots name then Some DotDot
    else if is_git name then Some GitFolder
    else if is_jj name then Some JjFolder
    else if has_nul name then Some Nul
    else None

-- what is wrong with the first of the names with which something is
unfoldable pub first_fault : List (List ℕ) → Option PathFault
first_fault [] = None
first_fault (name ∷ names) = option_or (name_fault name) (first_fault names)

-- what is wrong with the first name of the path with which something is
abbrev pub fault_of : List ℕ → Option PathFault
fault_of path = first_fault (slice_split is_slash path)
