-- What is wrong with a path, as a number.
use Rattle.std.specs.Prelude.{ℕ, Option, Some, None}
use Rattle.scm_tree.specs.declared.names.PathFault.{PathFault}
use Rattle.scm_tree.specs.declared.names.PathFault.TheVariants.{EmptyName, Dot, DotDot, GitFolder, JjFolder, Nul}

abbrev pub fault_number : Option PathFault → ℕ
fault_number None = 0
fault_number (Some EmptyName) = 1
fault_number (Some Dot) = 2
fault_number (Some DotDot) = 3
fault_number (Some GitFolder) = 4
fault_number (Some JjFolder) = 5
fault_number (Some Nul) = 6
