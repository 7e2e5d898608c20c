use Rattle.std.proofs.Common.{refl}
use Rattle.scm_front_paint.proofs.BlankLemmas.{fill-more}
use Rattle.scm_front_paint.proofs.status_painter.fill.Goals as goal

pub places-preserved : goal.places-preserved
places-preserved c =
    fill-more c.places.styles c.args.styles.now _ c.places.place-index c.args.style c.places-test.true c.places.invariant refl
