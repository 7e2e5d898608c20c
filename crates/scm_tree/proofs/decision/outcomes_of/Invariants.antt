use Rattle.scm_tree.specs.Decisions.{AreOutcomes}
use Rattle.scm_tree.proofs.decision.outcomes_of.Given as goal

abbrev pub invariant-loop-i : goal.invariant-loop-i
invariant-loop-i l = AreOutcomes l.rows l.refused l.i l.outcomes.items
