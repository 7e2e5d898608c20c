use Rattle.std.proofs.Common.{◌∙◌, ◌++◌, [], ◌∷◌, ap, sym, append-nil, ◌+ℤ◌, pos, FitsSigned, w64}
use Rattle.std.proofs.lemmas.Int.{to_z-of_z}
use Rattle.scm_render.proofs.StepLemmas.{InRange-fits}
use Rattle.scm_widgets.specs.Screens.{sight}
use Rattle.scm_widgets.proofs.PlacedLemmas.{first-rect, others-in}
use Rattle.scm_overlay.proofs.PlaceLemmas.{one-more, items-more, items-end}
use Rattle.scm_overlay.proofs.menu.place_items.Goals as goal

pub overflow_add-row : goal.overflow_add-row
overflow_add-row c =
    let fx : FitsSigned w64 c.args.x = c.ranges.x in
    let fy : FitsSigned w64 c.args.y = c.ranges.y in
    let more = rw (sym c.index-items-item_idx.is) at (items-more c.args.items.now c.loop-item_idx.item_idx c.index-items-item_idx.result c.args.x c.loop-item_idx.row c.loop-item_idx-test.true) in
    let fits = simp (to_z-of_z, c.loop-item_idx.row-is) at c.loop-item_idx.invariant.fits in
    simp c.loop-item_idx.row-is (InRange-fits _ (first-rect _ _ _ _ _ (rw more at (fits (sight 0 0 0)))).end_y)

pub loop-item_idx-preserved : goal.loop-item_idx-preserved
loop-item_idx-preserved c =
    let fx : FitsSigned w64 c.args.x = c.ranges.x in
    let fy : FitsSigned w64 c.args.y = c.ranges.y in
    let more = rw (sym c.index-items-item_idx.is) at (items-more c.args.items.now c.loop-item_idx.item_idx c.index-items-item_idx.result c.args.x c.loop-item_idx.row c.loop-item_idx-test.true) in
    let fits = simp (to_z-of_z, c.loop-item_idx.row-is) at c.loop-item_idx.invariant.fits in
    let made = simp (to_z-of_z, c.loop-item_idx.row-is) at c.loop-item_idx.invariant.made in
    let first = first-rect _ _ _ _ _ (rw more at (fits (sight 0 0 0))) in
    let below : FitsSigned w64 (c.loop-item_idx.row +ℤ pos 1) = InRange-fits _ first.end_y in
    let pushed = simp (to_z-of_z, c.loop-item_idx.row-is) at (rw (c.in_ok-width.ensures.ok, c.button-button.ensures) at c.new.ensures) in
    simp c.loop-item_idx.row-is (simp to_z-of_z (record {
      fits = λ s. others-in _ s _ (rw more at (fits s));
      made = one-more _ _ _ _ _ _ (c.in_ok-push.ensures.items ∙ ap (λ p. c.loop-item_idx.placed.items ++ (p ∷ [])) pushed) more made;
    }))

pub returns : goal.returns
returns c =
    let fx : FitsSigned w64 c.args.x = c.ranges.x in
    let fy : FitsSigned w64 c.args.y = c.ranges.y in
    let made = simp (to_z-of_z, c.loop-item_idx.row-is) at c.loop-item_idx.invariant.made in
    record { ok = sym (append-nil _) ∙ ap (λ k. c.loop-item_idx.placed.items ++ k) (sym (items-end _ _ _ _ c.loop-item_idx-test.false)) ∙ made }
