use Rattle.std.proofs.Common.{FitsSigned, w64}
use Rattle.std.proofs.lemmas.Int.{to_z-of_z}
use Rattle.scm_cells.specs.Rect.{end_x_of, InRange}
use Rattle.scm_cells.proofs.RectLemmas.{in_end}
use Rattle.scm_render.proofs.StepLemmas.{InRange-fits}
use Rattle.scm_widgets.proofs.mask_extent.to_end.Goals as goal

pub returns-clause-in_range : goal.returns-clause-in_range
returns-clause-in_range c = λ at.
    let fx : FitsSigned w64 c.args.x = c.ranges.x in
    let end : InRange (end_x_of c.mask_rect.result) = c.mask_rect.ensures.in_range.end_x in
    let fe : FitsSigned w64 (end_x_of c.mask_rect.result) = InRange-fits _ end in
    rw c.gap.ensures (rw c.end_x.ensures (simp to_z-of_z (in_end c.args.x (end_x_of c.mask_rect.result) at end)))
