use Rattle.std.proofs.Common.{FitsSigned, w64, rules}
use Rattle.std.proofs.lemmas.Int.{to_z-of_z}
use Rattle.scm_screen_tests.proofs.CornerLemmas.{here}
use Rattle.scm_screen_tests.proofs.alone.draw_button.Goals as goal

pub draw_component-requires : goal.draw_component-requires
draw_component-requires g c =
    let fx : FitsSigned w64 c.args.x = c.ranges.x in
    let fy : FitsSigned w64 c.args.y = c.ranges.y in
    simp to_z-of_z (c.parts_are_in_range.ensures.whole _ _ (c.components_are_in_range.ensures.buttons c.args.button.now _ _ _ (here _ (simp to_z-of_z at c.check_near.ensures)) (here _ (simp to_z-of_z at c.check_near-2.ensures)) (search rules)))
