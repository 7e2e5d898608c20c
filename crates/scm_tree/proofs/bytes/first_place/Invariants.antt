use Rattle.std.proofs.Common.{◌≤◌, length}
use Rattle.scm_tree.proofs.ByteLemmas.{IsPassed}
use Rattle.scm_tree.proofs.bytes.first_place.Given as goal

abbrev pub invariant-loop-i : goal.invariant-loop-i
invariant-loop-i l = record {
  passed : IsPassed l.byte l.bytes l.i;
  within : l.i ≤ length l.bytes;
}
