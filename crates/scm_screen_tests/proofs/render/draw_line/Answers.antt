use Rattle.std.proofs.Common.{FitsSigned, w64}
use Rattle.std.proofs.lemmas.Int.{to_z-of_z}
use Rattle.scm_screen_tests.proofs.NearLemmas.{in_range, line-near}
use Rattle.scm_screen_tests.proofs.render.draw_line.Goals as goal

pub draw_line-requires : goal.draw_line-requires
draw_line-requires g c =
    let fx : FitsSigned w64 c.args.x = c.ranges.x in
    let fy : FitsSigned w64 c.args.y = c.ranges.y in
    simp to_z-of_z (in_range c.drawing_stays_within.ensures _ (line-near c.drawing_stays_within.ensures _ _ _ _ (simp to_z-of_z at c.check_near.ensures) (simp to_z-of_z at c.check_near-2.ensures) (rw c.as_slice.ensures.value at c.check_spans.ensures)))
