use Rattle.std.proofs.Common.{◌≡◌, drop}
use Rattle.scm_tree.specs.Folding.{is_passed}
use Rattle.scm_tree.proofs.folding.is_passed.Given as goal

abbrev pub invariant-loop-i : goal.invariant-loop-i
invariant-loop-i l = is_passed l.end ≡ is_passed (drop l.i l.end)
