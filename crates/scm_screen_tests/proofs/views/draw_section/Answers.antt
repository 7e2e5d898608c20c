use Rattle.std.proofs.Common.{◌≤◌, arith}
use Rattle.scm_screen_tests.proofs.CornerLemmas.{corner, whole-here}
use Rattle.scm_screen_tests.proofs.ViewLemmas.{short-section}
use Rattle.scm_screen_tests.proofs.views.draw_section.Goals as goal

pub render_top_level-requires-clause-picture : goal.render_top_level-requires-clause-picture
render_top_level-requires-clause-picture g c =
    let w : c.args.grid.now.width ≤ 100 = omega (arith, c.width.ensures.value) in
    c.parts_are_in_range.ensures.whole _ _
    (c.components_are_in_range.ensures.sections c.args.view.now _ _ _ (whole-here c.args.grid.now 0 w (omega arith)) corner corner (short-section c.args.view.now c.check_section.ensures))
