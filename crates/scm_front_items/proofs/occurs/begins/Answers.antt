use Rattle.scm_front_items.proofs.OccursLemmas.{begins-stops, begins-goes}
use Rattle.scm_front_items.proofs.occurs.begins.Goals as goal

pub returns-then-not-is_seen : goal.returns-then-not-is_seen
returns-then-not-is_seen c =
    begins-stops c.args.is_exact c.args.pattern.now c.args.text.now c.loop-index.index _ c.loop-index-test.true c.is_seen.result c.is_seen.ensures c.if-not-is_seen.true c.loop-index.invariant

pub loop-index-preserved : goal.loop-index-preserved
loop-index-preserved c =
    begins-goes c.args.is_exact c.args.pattern.now c.args.text.now c.loop-index.index _ c.loop-index-test.true c.is_seen.result c.is_seen.ensures c.if-not-is_seen.false c.loop-index.invariant
