use Rattle.scm_diff.proofs.PairLemmas.{IsPairedTo}
use Rattle.scm_diff.proofs.merge.paired_lines.Given as goal

abbrev pub invariant-loop-i : goal.invariant-loop-i
invariant-loop-i l = IsPairedTo l.removed l.added l.i l.lines.items
