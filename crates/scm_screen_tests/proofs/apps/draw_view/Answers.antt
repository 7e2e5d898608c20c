use Rattle.std.proofs.Common.{FitsSigned, w64}
use Rattle.std.proofs.lemmas.Int.{to_z-of_z}
use Rattle.scm_screen_tests.proofs.CornerLemmas.{app-here}
use Rattle.scm_screen_tests.proofs.apps.draw_view.Goals as goal

pub draw_component-requires : goal.draw_component-requires
draw_component-requires g c =
    let fx : FitsSigned w64 c.args.x = c.ranges.x in
    simp to_z-of_z (c.parts_are_in_range.ensures.whole _ _ (c.components_are_in_range.ensures.apps c.args.view.now _ _ _ (app-here _ _ c.check_sight.ensures (simp to_z-of_z at c.check_near.ensures)) c.check_view.ensures))
