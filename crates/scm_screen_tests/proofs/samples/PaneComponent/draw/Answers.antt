use Rattle.std.proofs.Common.{rules, FitsSigned, w64}
use Rattle.std.proofs.lemmas.Int.{to_z-of_z}
use Rattle.scm_render.specs.Picture.{part}
use Rattle.scm_screen_tests.specs.Samples.{caption_picture, pane_picture}
use Rattle.scm_screen_tests.proofs.samples.PaneComponent.draw.Goals as goal

pub draw_component-requires : goal.draw_component-requires
unfolding pane_picture
draw_component-requires c =
    let fx : FitsSigned w64 c.args.x = c.ranges.x in
    let fy : FitsSigned w64 c.args.y = c.ranges.y in
    rw c.swap_mask-outer.ensures.new (simp to_z-of_z c.requires)

pub returns : goal.returns
unfolding pane_picture
returns c =
    let fx : FitsSigned w64 c.args.x = c.ranges.x in
    let fy : FitsSigned w64 c.args.y = c.ranges.y in
    let caption = c.args.self.now.caption in
    let drawn = simp to_z-of_z at c.in_ok-draw_component.ensures.draws.ok in
    record {
      ok =
          c.pictures_are_composed.ensures.masked _ c.swap_mask-outer.new.self.canvas c.draw_component.new.self.canvas _ c.args.self.now.mask
          (λ s. part caption.id (caption_picture caption s c.args.x c.args.y))
          c.swap_mask-outer.ensures.new drawn
          (rw c.swap_mask-outer.ensures.old at c.swap_mask.ensures.new);
      counts = search rules;
      rect = search rules;
      err = search rules;
    }
