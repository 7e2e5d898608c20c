use Rattle.std.proofs.Common.{ap, sym, ◌∙◌, FitsSigned, w64}
use Rattle.std.proofs.lemmas.Int.{to_z-of_z}
use Rattle.scm_render.proofs.PictureLemmas.{RectInRange-covering}
use Rattle.scm_render.proofs.StepLemmas.{sight-after}
use Rattle.scm_widgets.proofs.CoverLemmas.{covered-unkept}
use Rattle.scm_widgets.proofs.mask_extent.cover_rest.Goals as goal

pub cover-requires : goal.cover-requires
cover-requires c =
    let fx : FitsSigned w64 c.args.x = c.ranges.x in
    let fy : FitsSigned w64 c.args.y = c.ranges.y in
    simp (to_z-of_z, c.to_end.ensures.columns) (RectInRange-covering _ c.requires)

pub returns-then-keeps_boxes-clause-rect : goal.returns-then-keeps_boxes-clause-rect
returns-then-keeps_boxes-clause-rect c = ap (λ s. s.rect) (sight-after _ _ _ c.cover.ensures.new)

pub returns-else-keeps_boxes-clause-new : goal.returns-else-keeps_boxes-clause-new
returns-else-keeps_boxes-clause-new c = covered-unkept _ _ (sym c.keeps_boxes.ensures ∙ c.if-keeps_boxes.false)
