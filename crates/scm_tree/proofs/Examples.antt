-- Worked examples of the definitions: what git's core.protectNTFS and core.protectHFS refuse, and what they do not.
use Rattle.std.proofs.Common.{◌≡◌, [], ◌∷◌, Some, None, refl, codes}
use Rattle.std.specs.Prelude.{◌++◌}
use Rattle.scm_tree.specs.declared.names.PathFault.TheVariants.{DotDot, EmptyName, GitFolder, JjFolder}
use Rattle.scm_tree.specs.Folding.{begins, is_passed, is_same, letters}
use Rattle.scm_tree.specs.Names.{fault_of, first_fault, is_git, is_jj, name_fault}

unfoldable computing : Unit {0}
unfolding first_fault name_fault is_git is_jj letters is_same begins is_passed
computing = tt

-- a path in a folder
in_folder : fault_of (codes "a/.b/c") ≡ None
unfolding computing
in_folder = refl

absolute : fault_of (codes "/a") ≡ Some EmptyName
unfolding computing
absolute = refl

above : fault_of (codes "a/../b") ≡ Some DotDot
unfolding computing
above = refl

-- names that begin with dots
three_dots : fault_of (codes "...") ≡ None
unfolding computing
three_dots = refl

-- capital letters
capitals : fault_of (codes "x/.GiT/config") ≡ Some GitFolder
unfolding computing
capitals = refl

-- the short form of `.git` on NTFS
short_form : fault_of (codes "GIT~1") ≡ Some GitFolder
unfolding computing
short_form = refl

other_short_form : fault_of (codes "git~2") ≡ None
unfolding computing
other_short_form = refl

-- NTFS passes over dots and blanks at an end
dots_and_blanks : fault_of (codes ".git . .") ≡ Some GitFolder
unfolding computing
dots_and_blanks = refl

-- a stream of a file
stream : fault_of (codes ".git::$INDEX_ALLOCATION/x") ≡ Some GitFolder
unfolding computing
stream = refl

-- `\` parts names on Windows
backslash : fault_of (codes "a\\.git\\x") ≡ Some GitFolder
unfolding computing
backslash = refl

-- names that only begin with `.git`
gitignore : fault_of (codes ".gitignore") ≡ None
unfolding computing
gitignore = refl

git_in_a_name : fault_of (codes "a.git") ≡ None
unfolding computing
git_in_a_name = refl

-- U+200C in `.git`, and U+FEFF behind it
ignorable : fault_of (codes ".g" ++ (0xE2 ∷ 0x80 ∷ 0x8C ∷ codes "it")) ≡ Some GitFolder
unfolding computing
ignorable = refl

ignorable_end : fault_of (codes ".git" ++ (0xEF ∷ 0xBB ∷ 0xBF ∷ [])) ≡ Some GitFolder
unfolding computing
ignorable_end = refl

-- U+2010 is a hyphen
hyphen : fault_of (codes ".g" ++ (0xE2 ∷ 0x80 ∷ 0x90 ∷ codes "it")) ≡ None
unfolding computing
hyphen = refl

-- jj's folder
jj : fault_of (codes ".jj/repo") ≡ Some JjFolder
unfolding computing
jj = refl
