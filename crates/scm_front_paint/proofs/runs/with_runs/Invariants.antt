use Rattle.std.proofs.Common.{◌≡◌, take}
use Rattle.scm_front_paint.specs.Syntax.{with_runs}
use Rattle.scm_front_paint.proofs.runs.with_runs.Given as goal

abbrev pub invariant-loop-run : goal.invariant-loop-run
invariant-loop-run l = l.style ≡ with_runs (take l.run-index l.runs) l.column l.fn.style
