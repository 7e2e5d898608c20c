use Rattle.std.proofs.Common.{◌≡◌, ◌∙◌, sym, ap, FitsSigned, w64}
use Rattle.std.specs.Prelude.{◌-ℤ◌}
use Rattle.std.proofs.lemmas.Int.{to_z-of_z}
use Rattle.scm_cells.specs.Rect.{or_zero, end_x_of}
use Rattle.scm_render.specs.Drawing.{reach}
use Rattle.scm_render.proofs.CanvasLemmas.{not-kept}
use Rattle.scm_render.proofs.StepLemmas.{InRange-fits}
use Rattle.scm_document.proofs.RowsLemmas.{on-ok}
use Rattle.scm_document.proofs.VisibleLemmas.{visible-whole, visible-cut}
use Rattle.scm_document.proofs.section_line_view.push_visible_spans.Goals as goal

pub returns-then-keeps_boxes-clause-ok : goal.returns-then-keeps_boxes-clause-ok
returns-then-keeps_boxes-clause-ok c = on-ok _ (λ p. visible-whole _ _ _ _ _ p) c.push_spans_from_line.ensures.ok

pub returns-else-keeps_boxes-clause-ok : goal.returns-else-keeps_boxes-clause-ok
returns-else-keeps_boxes-clause-ok c =
    let fe : FitsSigned w64 (end_x_of c.mask_rect.result) = InRange-fits _ c.mask_rect.ensures.in_range.end_x in
    let none = not-kept _ (sym c.keeps_boxes.ensures ∙ c.if-keeps_boxes.false) in
    let columns : c.gap.result ≡ or_zero (end_x_of (reach c.args.viewport.now.canvas.sight) -ℤ c.args.x) =
    rw c.gap.ensures (rw c.end_x-end.ensures (simp (to_z-of_z, c.ranges.x, fe) (ap (λ r. or_zero (end_x_of r -ℤ c.args.x)) c.mask_rect.ensures.value))) in
    on-ok _ (λ p. visible-cut _ _ _ _ _ _ none columns p) c.push_first_spans.ensures.ok
