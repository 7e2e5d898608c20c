use Rattle.std.proofs.Common.{◌≡◌, ◌≤◌, ◌-◌, true, length, take}
use Rattle.scm_cells.specs.Cluster.{is_printable}
use Rattle.scm_cells.proofs.printable.count_in_blocks.Given as goal

abbrev pub invariant-blocks-2 : goal.invariant-blocks-2
invariant-blocks-2 l = record {
  within : l.count ≤ length l.bytes;
  printable : is_printable (take l.count l.bytes) ≡ true;
}

abbrev pub decreases-blocks-2 : goal.decreases-blocks-2
decreases-blocks-2 l = length l.bytes - l.count
