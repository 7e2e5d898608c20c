use Rattle.std.proofs.Common.{◌≤◌}
use Rattle.scm_bench.proofs.draw_frames.Given as goal

abbrev pub invariant-loop : goal.invariant-loop
invariant-loop l = l.drawn.width ≤ 100
