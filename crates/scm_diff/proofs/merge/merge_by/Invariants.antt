use Rattle.std.proofs.Common.{◌≤◌, length}
use Rattle.scm_diff.proofs.PairLemmas.{IsMergeTo}
use Rattle.scm_diff.proofs.merge.merge_by.Given as goal

abbrev pub invariant-loop-i : goal.invariant-loop-i
invariant-loop-i l = record {
  merged : IsMergeTo l.removed l.added l.i l.next l.lines.items;
  within : l.next ≤ length l.added;
}
