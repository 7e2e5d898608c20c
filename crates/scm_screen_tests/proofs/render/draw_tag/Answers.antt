use Rattle.scm_screen_tests.proofs.NearLemmas.{in_range, tag-near}
use Rattle.scm_screen_tests.proofs.render.draw_tag.Goals as goal

pub draw_component-requires : goal.draw_component-requires
draw_component-requires g c = c.parts_are_in_range.ensures.whole _ _ (in_range c.drawing_stays_within.ensures _ (tag-near c.drawing_stays_within.ensures c.args.tag.now.is_focused c.args.tag.now.label.now _ (rw (c.as_str.ensures.value, c.in_ok-text.ensures.ok) at c.check_text.ensures)))
