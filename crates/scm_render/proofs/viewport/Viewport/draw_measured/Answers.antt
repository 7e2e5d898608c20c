use Rattle.scm_render.specs.Kept.{kept_items}
use Rattle.std.proofs.Common.{rules, ◌∙◌, sym, ap, refl, FitsSigned, w64}
use Rattle.std.proofs.lemmas.Int.{to_z-of_z}
use Rattle.scm_render.proofs.PictureLemmas.{PictureInRange-part}
use Rattle.scm_render.specs.Picture.{box_rect}
use Rattle.scm_render.specs.Canvas.{with_picture}
use Rattle.scm_render.proofs.CanvasLemmas.{with_picture-measured}
use Rattle.scm_render.proofs.AroundLemmas.{no_rect-from}
use Rattle.scm_render.proofs.viewport.Viewport.draw_measured.Goals as goal

pub draw-requires : goal.draw-requires
draw-requires g c =
    let fx : FitsSigned w64 c.args.x = c.ranges.x in
    let fy : FitsSigned w64 c.args.y = c.ranges.y in
    simp to_z-of_z (PictureInRange-part _ _ (rw (sym c.self.view_is) at c.requires.picture))

pub returns-clause-draws : goal.returns-clause-draws
returns-clause-draws g c =
    let fx : FitsSigned w64 c.args.x = c.ranges.x in
    let fy : FitsSigned w64 c.args.y = c.ranges.y in
    let z = c.default-self-inside.ensures in
    let none = no_rect-from c.default-self-inside.result z.0 z.1.0 z.1.1.0 z.1.1.1 in
    let drawn = simp to_z-of_z at c.in_ok-draw.ensures.ok in
    let counted = simp to_z-of_z at c.in_ok-draw.ensures.counts in
    record {
      ok =
          rw (sym c.self.view_is)
          (with_picture-measured _ c.draw.new.viewport.canvas _ _ _ (rw (sym c.self.view_is) at c.requires.boxes)
          (ap (λ v. v.canvas.sight) c.self-2.view_is)
          (ap (λ v. v.canvas.rows) c.self-2.view_is)
          refl (ap kept_items c.replace-measured.ensures.after ∙ ap kept_items c.replace-none.ensures.value ∙ (rw (sym c.self.view_is) at c.requires.boxes))
          (simp (none, c.replace-none.ensures.after, c.empty_boxes.ensures) at drawn));
      counts = rw (sym c.self.view_is) (ap (λ v. v.counts) c.self-2.view_is ∙ counted);
      rect = search rules;
      err = search rules;
    }

pub returns-clause-drawn : goal.returns-clause-drawn
unfolding with_picture box_rect
returns-clause-drawn g c =
    let fx : FitsSigned w64 c.args.x = c.ranges.x in
    let fy : FitsSigned w64 c.args.y = c.ranges.y in
    let z = c.default-self-inside.ensures in
    let none = no_rect-from c.default-self-inside.result z.0 z.1.0 z.1.1.0 z.1.1.1 in
    let drawn = simp (none, c.replace-none.ensures.after, c.empty_boxes.ensures) at (simp to_z-of_z at c.in_ok-draw.ensures.ok) in
    rw (sym c.self.view_is) (ap (λ v. v.canvas.area) c.self-2.view_is ∙ ap (λ v. v.area) drawn)
