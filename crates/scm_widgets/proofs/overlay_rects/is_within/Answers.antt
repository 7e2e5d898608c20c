use Rattle.std.proofs.Common.{FitsSigned, w64}
use Rattle.std.proofs.lemmas.Int.{to_z-of_z}
use Rattle.scm_widgets.proofs.OverlayRectLemmas.{within-is}
use Rattle.scm_widgets.proofs.overlay_rects.is_within.Goals as goal

pub returns : goal.returns
returns c =
    let f : FitsSigned w64 c.args.first = c.ranges.first in
    rw (c.saturating_sub-left.ensures, c.saturating_sub.ensures, c.gap-start.ensures, c.gap.ensures) (simp to_z-of_z (within-is c.args.first c.args.size c.args.place))
