use Rattle.std.proofs.Common.{arith, pos, ◌+ℤ◌}
use Rattle.std.proofs.lemmas.Int.{ints}
use Rattle.scm_render.specs.Places.{whole_sight}
use Rattle.scm_render.specs.Bounds.{SightWithin}
use Rattle.scm_screen_tests.specs.Near.{IsNear, near}
use Rattle.scm_screen_tests.proofs.NearLemmas.{in_range, column-near}
use Rattle.scm_screen_tests.proofs.render.render_column.Goals as goal

pub render_top_level-requires-clause-picture : goal.render_top_level-requires-clause-picture
render_top_level-requires-clause-picture g c =
    let corner : IsNear (pos 0) = record { low = omega (arith, ints); high = omega (arith, ints) } in
    let end : IsNear (pos 0 +ℤ pos c.args.grid.now.width) = record { low = omega (arith, ints); high = omega (arith, ints, c.width.ensures.value) } in
    let whole : SightWithin near (whole_sight c.args.grid.now (pos 0) (pos 0)) = record { x = omega (arith, ints); end_x = omega (arith, ints, end.high); mask_x = omega (arith, ints) } in
    c.parts_are_in_range.ensures.whole _ _ (in_range c.drawing_stays_within.ensures _ (column-near c.drawing_stays_within.ensures c.args.column.now.captions.items _ _ _ whole corner (omega (arith, ints)) (omega (arith, ints, c.len.ensures)) (rw c.as_slice.ensures.value at c.check_captions.ensures)))
