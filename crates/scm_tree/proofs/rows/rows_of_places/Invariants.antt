use Rattle.scm_tree.specs.Merge.{AreRowsBelow}
use Rattle.scm_tree.proofs.rows.rows_of_places.Given as goal

abbrev pub invariant-loop-i : goal.invariant-loop-i
invariant-loop-i l = AreRowsBelow l.count l.places l.i l.rows.items
