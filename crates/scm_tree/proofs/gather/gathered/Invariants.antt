use Rattle.std.proofs.Common.{◌<◌}
use Rattle.scm_tree.specs.Places.{AreGathered}
use Rattle.scm_tree.proofs.gather.gathered.Given as goal

abbrev pub invariant-loop-i : goal.invariant-loop-i
invariant-loop-i l = record {
  gathered : AreGathered l.places l.i l.done.items l.last;
  begun : 0 < l.i;
}
