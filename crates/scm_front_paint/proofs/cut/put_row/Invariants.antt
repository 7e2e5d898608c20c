use Rattle.scm_front_paint.specs.Cut.{KeepsOthers}
use Rattle.scm_front_paint.proofs.cut.put_row.Given as goal

abbrev pub invariant-loop-column : goal.invariant-loop-column
invariant-loop-column l = KeepsOthers l.fn.cut l.cut l.row
