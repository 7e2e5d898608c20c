use Rattle.std.proofs.Common.{◌≡◌, ◌++◌, ◌+◌, drop}
use Rattle.scm_render.specs.Places.{with_times, with_times_from}
use Rattle.scm_render.proofs.viewport.time_boxes.Given as goal

abbrev pub invariant-loop-timestamp : goal.invariant-loop-timestamp
invariant-loop-timestamp g l = l.rects.items ++ with_times_from (0 + l.timestamp) (drop l.timestamp l.boxes) ≡ with_times l.boxes
