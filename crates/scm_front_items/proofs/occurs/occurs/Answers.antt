use Rattle.scm_front_items.proofs.OccursLemmas.{occurs-goes}
use Rattle.scm_front_items.proofs.occurs.occurs.Goals as goal

pub loop-index-preserved : goal.loop-index-preserved
loop-index-preserved c =
    occurs-goes c.args.is_exact c.args.pattern.now c.args.text.now c.loop-index.index c.begins.result c.loop-index-test.true c.begins.ensures c.if-begins.false c.loop-index.invariant
