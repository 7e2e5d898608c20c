use Rattle.std.proofs.Common.{◌∙◌, ap, refl, FitsSigned, w64}
use Rattle.std.proofs.lemmas.Int.{to_z-of_z}
use Rattle.scm_render.specs.Places.{with_times}
use Rattle.scm_render.proofs.CanvasLemmas.{part-rows, part-boxes}
use Rattle.scm_render.proofs.viewport.Viewport.render_top_level.Goals as goal

pub returns-clause-rows : goal.returns-clause-rows
returns-clause-rows g c =
    let fx : FitsSigned w64 c.args.x = c.ranges.x in
    let fy : FitsSigned w64 c.args.y = c.ranges.y in
    let began = simp (to_z-of_z, c.width.ensures.value, c.height.ensures.value, c.replace.ensures.value) at c.new-viewport.ensures.canvas in
    let drawn = simp (to_z-of_z, began) at c.in_ok-outcome.ensures.draws.ok in
    c.into_parts-drawn.ensures.rows ∙ part-rows _ _ _ _ drawn

pub returns-clause-boxes : goal.returns-clause-boxes
returns-clause-boxes g c =
    let fx : FitsSigned w64 c.args.x = c.ranges.x in
    let fy : FitsSigned w64 c.args.y = c.ranges.y in
    let began = simp (to_z-of_z, c.width.ensures.value, c.height.ensures.value, c.replace.ensures.value) at c.new-viewport.ensures.canvas in
    let drawn = simp (to_z-of_z, began) at c.in_ok-outcome.ensures.draws.ok in
    let kept = c.into_parts-drawn.ensures.boxes ∙ part-boxes _ _ _ _ drawn refl in
    let boxes = c.in_ok-timed.ensures ∙ ap with_times (rw kept at c.kept_slice.ensures) in
    rw boxes at c.in_ok-rects.ensures

pub returns-clause-counts : goal.returns-clause-counts
returns-clause-counts g c =
    let fx : FitsSigned w64 c.args.x = c.ranges.x in
    let fy : FitsSigned w64 c.args.y = c.ranges.y in
    let began = simp (to_z-of_z, c.width.ensures.value, c.height.ensures.value, c.replace.ensures.value) at c.new-viewport.ensures.canvas in
    let counted = simp (to_z-of_z, began) at c.in_ok-outcome.ensures.draws.counts in
    rw (c.new-viewport.ensures.counts, c.replace.ensures.value) at (c.into_parts-drawn.ensures.counts ∙ counted)
