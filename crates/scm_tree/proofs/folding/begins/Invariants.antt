use Rattle.std.proofs.Common.{◌≡◌, drop}
use Rattle.scm_tree.specs.Folding.{begins}
use Rattle.scm_tree.proofs.folding.begins.Given as goal

abbrev pub invariant-loop-i : goal.invariant-loop-i
invariant-loop-i l = begins l.word l.name ≡ begins (drop l.i l.word) (drop l.i l.name)
