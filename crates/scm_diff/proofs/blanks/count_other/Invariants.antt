use Rattle.std.proofs.Common.{◌≡◌, ◌+◌, ◌≤◌, drop}
use Rattle.scm_diff.specs.Blanks as blanks
use Rattle.scm_diff.proofs.blanks.count_other.Given as goal

abbrev pub invariant-loop-index : goal.invariant-loop-index
invariant-loop-index l = record {
  least : l.count ≤ l.index;
  left : l.count + blanks.count_other (drop l.index l.lines) (drop l.index l.others) ≡ blanks.count_other l.lines l.others;
}
