use Rattle.std.proofs.Common.{ℕ, ◌<◌, get_or}
use Rattle.scm_tree.specs.declared.decision.Moved.{Moved}
use Rattle.scm_tree.specs.Decisions.{IsMoved}
use Rattle.scm_tree.proofs.decision.check_moved.Given as goal

abbrev pub invariant-loop-i : goal.invariant-loop-i
invariant-loop-i l = (k : ℕ) (d : Moved) → k < l.i → IsMoved l.rows (get_or l.moved k d)
