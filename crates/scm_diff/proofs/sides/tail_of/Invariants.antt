use Rattle.std.proofs.Common.{◌≡◌, ◌≤◌, take, drop}
use Rattle.scm_types.specs.Split.{tail_of}
use Rattle.scm_diff.proofs.sides.tail_of.Given as goal

abbrev pub invariant-loop-i : goal.invariant-loop-i
invariant-loop-i l = record {
  in_range : l.start ≤ l.i;
  tail : drop l.start (take l.i l.sections) ≡ tail_of (take l.i l.sections);
}
