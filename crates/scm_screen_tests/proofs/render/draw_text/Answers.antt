use Rattle.std.proofs.Common.{FitsSigned, w64}
use Rattle.std.proofs.lemmas.Int.{to_z-of_z}
use Rattle.scm_screen_tests.proofs.NearLemmas.{in_range, text-near}
use Rattle.scm_screen_tests.proofs.render.draw_text.Goals as goal

pub draw_text-requires : goal.draw_text-requires
draw_text-requires g c =
    let fx : FitsSigned w64 c.args.x = c.ranges.x in
    let fy : FitsSigned w64 c.args.y = c.ranges.y in
    simp to_z-of_z (in_range c.drawing_stays_within.ensures _ (text-near c.drawing_stays_within.ensures _ _ _ _ c.check_sight.ensures (simp to_z-of_z at c.check_near.ensures) (simp to_z-of_z at c.check_near-2.ensures) c.check_spans.ensures))
