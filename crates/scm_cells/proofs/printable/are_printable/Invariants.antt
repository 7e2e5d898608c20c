use Rattle.std.proofs.Common.{◌≡◌, take}
use Rattle.scm_cells.specs.Cluster.{is_printable}
use Rattle.scm_cells.proofs.printable.are_printable.Given as goal

abbrev pub invariant-loop-byte : goal.invariant-loop-byte
invariant-loop-byte l = l.are ≡ is_printable (take l.byte-index l.bytes)
