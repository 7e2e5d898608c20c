use Rattle.std.proofs.Common.{◌-◌}
use Rattle.scm_front_paint.specs.Cut.{KeepsOthers}
use Rattle.scm_front_paint.proofs.cut.put_part.Given as goal

abbrev pub invariant-places : goal.invariant-places
invariant-places l = KeepsOthers l.fn.cut l.cut l.row

abbrev pub decreases-places : goal.decreases-places
decreases-places l = l.end - l.column
