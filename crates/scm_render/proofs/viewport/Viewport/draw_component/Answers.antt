use Rattle.std.proofs.Common.{FitsSigned, w64}
use Rattle.std.proofs.lemmas.Int.{to_z-of_z}
use Rattle.scm_render.proofs.CanvasLemmas.{none-counted}
use Rattle.scm_render.proofs.viewport.Viewport.draw_component.Goals as goal

pub draw_at-requires-clause-picture : goal.draw_at-requires-clause-picture
draw_at-requires-clause-picture g c =
    let fx : FitsSigned w64 c.args.x = c.ranges.x in
    let fy : FitsSigned w64 c.args.y = c.ranges.y in
    simp to_z-of_z c.requires

pub draw_measured-requires-clause-boxes : goal.draw_measured-requires-clause-boxes
draw_measured-requires-clause-boxes g c = none-counted c.args.self.now.canvas.boxes c.in-None.ensures

pub draw_measured-requires-clause-picture : goal.draw_measured-requires-clause-picture
draw_measured-requires-clause-picture g c =
    let fx : FitsSigned w64 c.args.x = c.ranges.x in
    let fy : FitsSigned w64 c.args.y = c.ranges.y in
    simp to_z-of_z c.requires
