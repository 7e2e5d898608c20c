use Rattle.std.proofs.Common.{ap}
use Rattle.scm_render.proofs.StepLemmas.{sight-after}
use Rattle.scm_widgets.proofs.mask_extent.cover_rect.Goals as goal

pub returns-clause-rect : goal.returns-clause-rect
returns-clause-rect c = ap (λ s. s.rect) (sight-after _ _ _ c.cover.ensures.new)
