use Rattle.std.proofs.Common.{◌<◌, ◌-◌, length}
use Rattle.scm_cells.proofs.beginnings.first_of_line.Given as goal

abbrev pub invariant-tries : goal.invariant-tries
invariant-tries l = 0 < l.most

abbrev pub decreases-tries : goal.decreases-tries
decreases-tries l = length l.line - l.most
