use Rattle.std.proofs.Common.{arith}
use Rattle.scm_render.proofs.MapLemmas.{timed_from-more, timed_from-end}
use Rattle.scm_render.proofs.viewport.time_boxes.Goals as goal

pub loop-timestamp-preserved : goal.loop-timestamp-preserved
loop-timestamp-preserved g c =
    rw c.in_ok-push.ensures.items
    (timed_from-more 0 c.args.boxes.now c.loop-timestamp.timestamp c.loop-timestamp.timestamp c.index-boxes-timestamp.result c.index-boxes-timestamp.result c.loop-timestamp.rects.items _ (omega arith) (omega arith) c.index-boxes-timestamp.is c.loop-timestamp.invariant)

pub returns : goal.returns
returns g c =
    timed_from-end 0 c.args.boxes.now c.loop-timestamp.timestamp c.loop-timestamp.rects.items _ (omega arith) c.loop-timestamp.invariant
