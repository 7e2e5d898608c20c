use Rattle.std.proofs.Common.{FitsSigned, w64, arith, pos, ◌+ℤ◌}
use Rattle.std.proofs.lemmas.Int.{ints, to_z-of_z}
use Rattle.scm_screen_tests.specs.Near.{IsNear}
use Rattle.scm_screen_tests.proofs.NearLemmas.{in_range, nest-near}
use Rattle.scm_screen_tests.proofs.render.draw_nest.Goals as goal

pub draw_component-requires : goal.draw_component-requires
draw_component-requires g c =
    let nest = c.args.nest.now in
    let fm : FitsSigned w64 nest.mask.x = omega (arith, ints, nest.in_range.x) in
    let fp : FitsSigned w64 nest.pane.mask.x = omega (arith, ints, nest.pane.in_range.x) in
    let mask : IsNear nest.mask.x = simp to_z-of_z at c.check_near.ensures in
    let pane : IsNear nest.pane.mask.x = simp to_z-of_z at c.check_near-2.ensures in
    let corner : IsNear (pos 0) = record { low = omega (arith, ints); high = omega (arith, ints) } in
    let below : IsNear (pos 0 +ℤ pos 1) = record { low = omega (arith, ints); high = omega (arith, ints) } in
    c.parts_are_in_range.ensures.whole _ _ (in_range c.drawing_stays_within.ensures _ (nest-near c.drawing_stays_within.ensures nest _ _ _ c.check_sight.ensures mask pane corner corner below c.check_text.ensures c.check_text-2.ensures))
