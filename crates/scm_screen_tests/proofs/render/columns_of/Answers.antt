use Rattle.std.proofs.Common.{arith}
use Rattle.scm_screen_tests.proofs.NearLemmas.{spans-more, spans-end}
use Rattle.scm_screen_tests.proofs.render.columns_of.Goals as goal

pub loop-span-preserved : goal.loop-span-preserved
loop-span-preserved g c =
    rw c.text_width-width.ensures.value (spans-more c.args.spans.now c.loop-span.span-index c.loop-span.columns _ _ (omega arith) c.loop-span.invariant)

pub returns : goal.returns
returns g c = omega (arith, c.loop-span.invariant, spans-end c.args.spans.now c.loop-span.span-index (omega arith))
