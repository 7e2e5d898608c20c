use Rattle.std.proofs.Common.{rules}
use Rattle.scm_render.specs.Drawing.{blank_picture, frame_picture}
use Rattle.scm_screen_tests.proofs.render.check_filled.Goals as goal

pub draw_blank-requires : goal.draw_blank-requires
unfolding blank_picture
draw_blank-requires g c = record { areas = (search rules, tt) }

pub draw_frame-requires : goal.draw_frame-requires
unfolding frame_picture
draw_frame-requires g c = record { areas = (search rules, tt) }
