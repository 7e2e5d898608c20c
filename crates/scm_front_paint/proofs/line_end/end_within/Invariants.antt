use Rattle.std.proofs.Common.{◌<◌, ◌-◌, length}
use Rattle.scm_front_paint.proofs.line_end.end_within.Given as goal

abbrev pub invariant-tries : goal.invariant-tries
invariant-tries l = 0 < l.most

abbrev pub decreases-tries : goal.decreases-tries
decreases-tries l = length l.line - l.most
