use Rattle.std.proofs.Common.{◌≡◌, ◌≤◌, pos, arith, to_z, w64}
use Rattle.std.proofs.lemmas.Int.{to_z_pos}
use Rattle.scm_screen_tests.proofs.CornerLemmas.{corner, whole-here}
use Rattle.scm_screen_tests.proofs.ViewLemmas.{short-commit}
use Rattle.scm_screen_tests.proofs.views.draw_commit.Goals as goal

pub render_top_level-requires-clause-picture : goal.render_top_level-requires-clause-picture
render_top_level-requires-clause-picture g c =
    let w : c.args.grid.now.width ≤ 100 = omega (arith, c.width.ensures.value) in
    let h : c.args.y ≤ 100 = omega arith in
    let y : to_z w64 c.args.y ≡ pos c.args.y = to_z_pos w64 c.args.y (omega (arith, h)) in
    rw y (c.parts_are_in_range.ensures.whole _ _ (c.components_are_in_range.ensures.commits c.args.view.now _ _ _ (whole-here c.args.grid.now c.args.y w h) corner corner (short-commit c.args.view.now c.check_commit.ensures)))
