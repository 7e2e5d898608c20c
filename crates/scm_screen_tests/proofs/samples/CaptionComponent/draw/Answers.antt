use Rattle.std.proofs.Common.{rules, FitsSigned, w64}
use Rattle.std.proofs.lemmas.Int.{to_z-of_z}
use Rattle.scm_screen_tests.specs.Samples.{caption_picture}
use Rattle.scm_screen_tests.proofs.samples.CaptionComponent.draw.Goals as goal

pub draw_text-requires : goal.draw_text-requires
unfolding caption_picture
draw_text-requires c =
    let fx : FitsSigned w64 c.args.x = c.ranges.x in
    let fy : FitsSigned w64 c.args.y = c.ranges.y in
    simp to_z-of_z c.requires

pub returns : goal.returns
unfolding caption_picture
returns c =
    let fx : FitsSigned w64 c.args.x = c.ranges.x in
    let fy : FitsSigned w64 c.args.y = c.ranges.y in
    record {
      ok = simp to_z-of_z at c.in_ok-draw_text.ensures.draws.ok;
      counts = search rules;
      rect = search rules;
      err = search rules;
    }
