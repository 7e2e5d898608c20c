use Rattle.std.proofs.Common.{◌-◌}
use Rattle.scm_tree.specs.Find.{IsWithin}
use Rattle.scm_tree.proofs.find.row_number.Given as goal

abbrev pub invariant-halves : goal.invariant-halves
invariant-halves l = IsWithin l.rows l.path l.span

abbrev pub decreases-halves : goal.decreases-halves
decreases-halves l = l.span.high - l.span.low
