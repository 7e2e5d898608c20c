use Rattle.scm_render.proofs.CanvasLemmas.{with_picture-masked}
use Rattle.std.proofs.Common.{rules, ◌∙◌, ap, FitsSigned, w64}
use Rattle.std.proofs.lemmas.Int.{to_z-of_z}
use Rattle.scm_widgets.proofs.mask_extent.draw_under.Goals as goal

pub returns : goal.returns
returns g c =
    let fx : FitsSigned w64 c.args.x = c.ranges.x in
    let fy : FitsSigned w64 c.args.y = c.ranges.y in
    let inner = c.swap_mask-outer.new.self.canvas in
    record {
      ok =
          let drawn = simp (to_z-of_z, ap (λ v. v.sight) c.swap_mask-outer.ensures.new) at c.in_ok-draw_part.ensures.ok in
          with_picture-masked _ inner c.draw_part.new.self.canvas _ c.args.mask _ c.swap_mask-outer.ensures.new drawn
          (rw c.swap_mask-outer.ensures.old at c.swap_mask.ensures.new);
      counts =
          let drawn = simp (to_z-of_z, ap (λ v. v.sight) c.swap_mask-outer.ensures.new) at c.in_ok-draw_part.ensures.counts in
          c.swap_mask.ensures.counts ∙ rw c.swap_mask-outer.ensures.counts at drawn;
      rect = search rules;
      err = search rules;
    }
