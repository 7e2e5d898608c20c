use Rattle.scm_screen_tests.proofs.CornerLemmas.{rect-here}
use Rattle.scm_screen_tests.proofs.alone.draw_help.Goals as goal

pub draw_component-requires : goal.draw_component-requires
draw_component-requires g c = c.parts_are_in_range.ensures.whole _ _ (c.components_are_in_range.ensures.help_dialogs _ (rect-here _ c.check_sight.ensures))
