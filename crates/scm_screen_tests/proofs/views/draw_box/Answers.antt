use Rattle.scm_screen_tests.proofs.CornerLemmas.{corner}
use Rattle.scm_screen_tests.proofs.views.draw_box.Goals as goal

pub render_top_level-requires-clause-picture : goal.render_top_level-requires-clause-picture
render_top_level-requires-clause-picture g c = c.parts_are_in_range.ensures.whole _ _ (c.components_are_in_range.ensures.boxes c.args.view.now _ _ _ corner corner)
