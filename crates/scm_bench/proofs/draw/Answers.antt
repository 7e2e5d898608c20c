use Rattle.std.proofs.Common.{◌≡◌, ◌+◌, ◌≤◌, pos, [], ◌∷◌, arith, w64, to_z, refl}
use Rattle.std.proofs.lemmas.Int.{ints, to_z_pos}
use Rattle.scm_bench.proofs.ScreenLemmas.{screen, screen-in_range, one-width, sight-kept}
use Rattle.scm_bench.proofs.draw.Goals as goal

pub loop-row-init : goal.loop-row-init
loop-row-init c =
    let columns : c.width.result ≤ 100 = rw (c.width.ensures.value, c.clear.ensures) c.requires.screen in
    rw c.new-viewport.ensures.canvas (record {
      near = record { x = omega (arith, ints); end_x = omega (arith, ints, columns); mask_x = omega (arith, ints) };
      width = rw (c.width.ensures.value, c.clear.ensures) refl;
    })

pub draw_text-requires : goal.draw_text-requires
draw_text-requires c =
    let row : to_z w64 c.loop-row.row ≡ pos c.loop-row.row = to_z_pos w64 c.loop-row.row (omega (arith, c.loop-row-test.true)) in
    rw row
    (c.drawing_stays_within.ensures.in_range screen _ screen-in_range
    (c.drawing_stays_within.ensures.texts screen c.loop-row.viewport.canvas.sight (pos 0) (pos c.loop-row.row) (c.args.text.now ∷ []) c.loop-row.invariant.near
    (omega (arith, ints)) (omega (arith, ints, one-width c.args.text.now c.requires.text)) (omega (arith, ints)) (omega (arith, ints, c.loop-row-test.true))))

pub loop-row-preserved : goal.loop-row-preserved
loop-row-preserved c =
    rw (c.in_ok-draw_text.ensures.draws.ok, sight-kept c.loop-row.viewport.canvas _) c.loop-row.invariant
