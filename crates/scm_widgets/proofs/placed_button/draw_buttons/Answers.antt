use Rattle.std.proofs.Common.{rules, ◌+◌, ◌-◌, length, arith, sym, FitsSigned, w64}
use Rattle.std.proofs.lemmas.Int.{to_z-of_z}
use Rattle.scm_render.proofs.StepLemmas.{InRange-fits, left-part, left-more, left-none}
use Rattle.scm_widgets.specs.Buttons.{button_part}
use Rattle.scm_widgets.proofs.PlacedLemmas.{placed-more, placed-end, button-rect}
use Rattle.scm_widgets.proofs.CountLemmas.{calls-more, calls-end}
use Rattle.scm_widgets.proofs.placed_button.draw_buttons.Goals as goal

pub draw_part-requires : goal.draw_part-requires
draw_part-requires g c =
    let p = c.placed-item.result in
    let more = rw (sym c.placed-item.is) at (placed-more c.args.buttons.now c.loop-placed.placed-index p c.args.viewport.now.canvas.sight c.loop-placed-test.true) in
    let fits = left-part _ _ (λ s. button_part p.button s p.rect.x p.rect.y) _ _ _ more c.loop-placed.invariant.left in
    let fx : FitsSigned w64 p.rect.x = InRange-fits _ (button-rect _ _ _ _ fits).x in
    let fy : FitsSigned w64 p.rect.y = InRange-fits _ (button-rect _ _ _ _ fits).y in
    simp to_z-of_z fits

pub loop-placed-preserved : goal.loop-placed-preserved
loop-placed-preserved g c =
    let p = c.placed-item.result in
    let more = rw (sym c.placed-item.is) at (placed-more c.args.buttons.now c.loop-placed.placed-index p c.args.viewport.now.canvas.sight c.loop-placed-test.true) in
    let fits = left-part _ _ (λ s. button_part p.button s p.rect.x p.rect.y) _ _ _ more c.loop-placed.invariant.left in
    let fx : FitsSigned w64 p.rect.x = InRange-fits _ (button-rect _ _ _ _ fits).x in
    let fy : FitsSigned w64 p.rect.y = InRange-fits _ (button-rect _ _ _ _ fits).y in
    let drawn = simp to_z-of_z at c.in_ok-draw_part.ensures.ok in
    let n = length c.args.buttons.now in
    let i = c.loop-placed.placed-index in
    record {
      left = left-more _ _ _ (λ s. button_part p.button s p.rect.x p.rect.y) _ _ _ more c.loop-placed.invariant.left drawn;
      counts = calls-more _ _ _ (n - i) 1 (n - (i + 1)) n (omega arith) c.loop-placed.invariant.counts c.in_ok-draw_part.ensures.counts;
    }

pub returns : goal.returns
returns g c =
    record {
      ok = left-none _ _ _ _ (placed-end _ _ _ c.loop-placed-test.false) c.loop-placed.invariant.left;
      counts = calls-end _ _ _ _ (omega arith) c.loop-placed.invariant.counts;
      rect = search rules;
      err = search rules;
    }
