use Rattle.std.proofs.Common.{◌≡◌, subst, take, take_all, arith}
use Rattle.scm_layout_index.specs.Overlays.{AreAbove}
use Rattle.scm_layout_index.proofs.OverlayLemmas.{next-above}
use Rattle.scm_layout_index.proofs.overlays.last_row_of.Goals as goal

pub loop-placed-preserved : goal.loop-placed-preserved
loop-placed-preserved c =
    next-above c.args.rects.now c.loop-placed.placed-index _ c.loop-placed.last c.last_row.result c.max-last.result (omega arith) (omega arith) (omega arith) c.loop-placed.invariant c.last_row.ensures

pub returns : goal.returns
returns c =
    let all : take c.loop-placed.placed-index c.args.rects.now ≡ c.args.rects.now = take_all c.loop-placed.placed-index c.args.rects.now (omega arith) in
    subst (AreAbove c.loop-placed.last) all c.loop-placed.invariant
