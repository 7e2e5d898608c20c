use Rattle.std.proofs.Common.{rules, ◌∙◌, sym, FitsSigned, w64}
use Rattle.std.proofs.lemmas.Int.{to_z-of_z}
use Rattle.scm_render.proofs.PictureLemmas.{PictureInRange-part}
use Rattle.scm_render.proofs.CanvasLemmas.{not-kept, drawn-unkept}
use Rattle.scm_render.proofs.viewport.Viewport.draw_part.Goals as goal

pub draw-requires : goal.draw-requires
draw-requires g c =
    let fx : FitsSigned w64 c.args.x = c.ranges.x in
    let fy : FitsSigned w64 c.args.y = c.ranges.y in
    simp to_z-of_z (PictureInRange-part _ _ c.requires)

pub returns-else-keeps_boxes : goal.returns-else-keeps_boxes
returns-else-keeps_boxes g c =
    let fx : FitsSigned w64 c.args.x = c.ranges.x in
    let fy : FitsSigned w64 c.args.y = c.ranges.y in
    let none = not-kept c.args.self.now.canvas.boxes (sym c.keeps_boxes.ensures ∙ c.if-keeps_boxes.false) in
    record {
      ok = drawn-unkept _ _ _ _ _ none (simp to_z-of_z at c.draw.ensures.ok);
      counts = simp to_z-of_z at c.draw.ensures.counts;
      rect = search rules;
      err = search rules;
    }
