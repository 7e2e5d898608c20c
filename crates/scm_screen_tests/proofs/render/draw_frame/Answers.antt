use Rattle.std.proofs.Common.{FitsSigned, w64}
use Rattle.std.proofs.lemmas.Int.{to_z-of_z}
use Rattle.scm_screen_tests.proofs.NearLemmas.{in_range, frame-near}
use Rattle.scm_screen_tests.proofs.render.draw_frame.Goals as goal

pub draw_frame-requires : goal.draw_frame-requires
draw_frame-requires g c =
    let fx : FitsSigned w64 c.args.x = c.ranges.x in
    let fy : FitsSigned w64 c.args.y = c.ranges.y in
    simp to_z-of_z (in_range c.drawing_stays_within.ensures _ (frame-near c.drawing_stays_within.ensures _ _ _ _ _ (simp to_z-of_z at c.check_near.ensures) (simp to_z-of_z at c.check_near-2.ensures)))
