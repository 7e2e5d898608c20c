use Rattle.scm_screen_tests.proofs.NearLemmas.{short-more, short-end}
use Rattle.scm_screen_tests.proofs.render.check_captions.Goals as goal

pub loop-caption-preserved : goal.loop-caption-preserved
loop-caption-preserved g c = λ rest. c.loop-caption.invariant (short-more c.args.captions.now c.loop-caption.caption-index _ c.loop-caption-test.true c.check_text.ensures rest)

pub returns : goal.returns
returns g c = c.loop-caption.invariant (short-end c.args.captions.now c.loop-caption.caption-index c.loop-caption-test.false)
