use Rattle.std.proofs.Common.{◌∙◌, ◌++◌, [], ◌∷◌, ap, sym, append-nil, ◌-ℤ◌, pos, FitsSigned, w64}
use Rattle.std.proofs.lemmas.Int.{to_z-of_z}
use Rattle.scm_render.proofs.StepLemmas.{InRange-fits}
use Rattle.scm_widgets.specs.Buttons.{button_width}
use Rattle.scm_widgets.specs.Screens.{sight}
use Rattle.scm_widgets.proofs.PlacedLemmas.{first-rect, others-in}
use Rattle.scm_overlay.proofs.DialogPlaceLemmas.{last-fits}
use Rattle.scm_overlay.proofs.PlaceLemmas.{one-more, right-more, right-end}
use Rattle.scm_overlay.proofs.button_row.place_from_right.Goals as goal

pub strict_sub_unsigned-left-requires : goal.strict_sub_unsigned-left-requires
strict_sub_unsigned-left-requires g c =
    let fe : FitsSigned w64 c.args.end = c.ranges.end in
    let fy : FitsSigned w64 c.args.y = c.ranges.y in
    let more = rw (sym c.button-item.is) at (right-more c.args.buttons.now c.loop-button.button-index c.button-item.result c.loop-button.right c.args.y c.loop-button-test.true) in
    let fits = simp (to_z-of_z, c.loop-button.right-is) at c.loop-button.invariant.fits in
    rw c.in_ok-width.ensures.ok (simp c.loop-button.right-is (InRange-fits _ (first-rect _ _ _ _ _ (rw more at (fits (sight 0 0 0)))).x))

pub overflow_sub-right : goal.overflow_sub-right
overflow_sub-right g c =
    let fe : FitsSigned w64 c.args.end = c.ranges.end in
    let fy : FitsSigned w64 c.args.y = c.ranges.y in
    let b = c.button-item.result in
    let more = rw (sym c.button-item.is) at (right-more c.args.buttons.now c.loop-button.button-index b c.loop-button.right c.args.y c.loop-button-test.true) in
    let fits = simp (to_z-of_z, c.loop-button.right-is) at c.loop-button.invariant.fits in
    let first = first-rect _ _ _ _ _ (rw more at (fits (sight 0 0 0))) in
    let place = simp c.loop-button.right-is at (rw c.in_ok-width.ensures.ok at c.strict_sub_unsigned-left.ensures) in
    let fl : FitsSigned w64 (c.loop-button.right -ℤ pos (button_width b)) = InRange-fits _ first.x in
    rw place (simp to_z-of_z (last-fits _ first.x))

pub loop-button-preserved : goal.loop-button-preserved
loop-button-preserved g c =
    let fe : FitsSigned w64 c.args.end = c.ranges.end in
    let fy : FitsSigned w64 c.args.y = c.ranges.y in
    let b = c.button-item.result in
    let more = rw (sym c.button-item.is) at (right-more c.args.buttons.now c.loop-button.button-index b c.loop-button.right c.args.y c.loop-button-test.true) in
    let fits = simp (to_z-of_z, c.loop-button.right-is) at c.loop-button.invariant.fits in
    let made = simp (to_z-of_z, c.loop-button.right-is) at c.loop-button.invariant.made in
    let first = first-rect _ _ _ _ _ (rw more at (fits (sight 0 0 0))) in
    let place = simp c.loop-button.right-is at (rw c.in_ok-width.ensures.ok at c.strict_sub_unsigned-left.ensures) in
    let fl : FitsSigned w64 (c.loop-button.right -ℤ pos (button_width b)) = InRange-fits _ first.x in
    let fb : FitsSigned w64 ((c.loop-button.right -ℤ pos (button_width b)) -ℤ pos 1) = last-fits _ first.x in
    let pushed = simp to_z-of_z at (rw (place, c.in_ok-width.ensures.ok, c.borrowed.ensures) at c.new.ensures) in
    rw place (simp to_z-of_z (record {
      fits = λ s. others-in _ s _ (rw more at (fits s));
      made = one-more _ _ _ _ _ _ (c.in_ok-push.ensures.items ∙ ap (λ p. c.loop-button.placed.items ++ (p ∷ [])) pushed) more made;
    }))

pub returns : goal.returns
returns g c =
    let fe : FitsSigned w64 c.args.end = c.ranges.end in
    let fy : FitsSigned w64 c.args.y = c.ranges.y in
    let made = simp (to_z-of_z, c.loop-button.right-is) at c.loop-button.invariant.made in
    record { ok = sym (append-nil _) ∙ ap (λ k. c.loop-button.placed.items ++ k) (sym (right-end _ _ _ _ c.loop-button-test.false)) ∙ made }
