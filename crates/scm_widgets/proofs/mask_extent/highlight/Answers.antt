use Rattle.std.proofs.Common.{sym}
use Rattle.scm_render.proofs.CanvasLemmas.{with_picture-nothing}
use Rattle.scm_widgets.proofs.mask_extent.highlight.Goals as goal

pub returns-else-is_selected-clause-new : goal.returns-else-is_selected-clause-new
returns-else-is_selected-clause-new c = rw c.if-is_selected.false (sym (with_picture-nothing _))
