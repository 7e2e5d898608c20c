use Rattle.std.proofs.Common.{◌∙◌, ◌++◌, [], ◌∷◌, ap, sym, append-nil, ◌+ℤ◌, pos, FitsSigned, w64}
use Rattle.std.proofs.lemmas.Int.{to_z-of_z}
use Rattle.scm_render.proofs.StepLemmas.{InRange-fits}
use Rattle.scm_widgets.specs.Buttons.{button_width}
use Rattle.scm_widgets.specs.Screens.{sight}
use Rattle.scm_widgets.proofs.PlacedLemmas.{first-rect, others-in}
use Rattle.scm_overlay.specs.Menus.{header_button}
use Rattle.scm_overlay.proofs.DialogPlaceLemmas.{next-fits}
use Rattle.scm_overlay.proofs.PlaceLemmas.{one-more, headers-more, headers-end, header-next}
use Rattle.scm_overlay.proofs.menu_bar.place_headers.Goals as goal

pub strict_add_unsigned-column-requires : goal.strict_add_unsigned-column-requires
strict_add_unsigned-column-requires c =
    let fx : FitsSigned w64 c.args.x = c.ranges.x in
    let fy : FitsSigned w64 c.args.y = c.ranges.y in
    let more = rw (sym c.index-menus-menu_idx.is) at (headers-more c.args.menus.now c.loop-menu_idx.menu_idx c.index-menus-menu_idx.result c.loop-menu_idx.column c.args.y c.loop-menu_idx-test.true) in
    let fits = simp (to_z-of_z, c.loop-menu_idx.column-is) at c.loop-menu_idx.invariant.fits in
    rw (c.in_ok-width.ensures.ok, c.header-header.ensures) (simp c.loop-menu_idx.column-is (InRange-fits _ (first-rect _ _ _ _ _ (rw more at (fits (sight 0 0 0)))).end_x))

pub overflow_add-column : goal.overflow_add-column
overflow_add-column c =
    let fx : FitsSigned w64 c.args.x = c.ranges.x in
    let fy : FitsSigned w64 c.args.y = c.ranges.y in
    let i = c.loop-menu_idx.menu_idx in
    let m = c.index-menus-menu_idx.result in
    let more = rw (sym c.index-menus-menu_idx.is) at (headers-more c.args.menus.now i m c.loop-menu_idx.column c.args.y c.loop-menu_idx-test.true) in
    let fits = simp (to_z-of_z, c.loop-menu_idx.column-is) at c.loop-menu_idx.invariant.fits in
    let first = first-rect _ _ _ _ _ (rw more at (fits (sight 0 0 0))) in
    let end : FitsSigned w64 (c.loop-menu_idx.column +ℤ pos (button_width (header_button i m))) = InRange-fits _ first.end_x in
    let sum = simp c.loop-menu_idx.column-is at (rw (c.in_ok-width.ensures.ok, c.header-header.ensures) at c.strict_add_unsigned-column.ensures) in
    rw sum (simp to_z-of_z (next-fits _ first.end_x))

pub loop-menu_idx-preserved : goal.loop-menu_idx-preserved
loop-menu_idx-preserved c =
    let fx : FitsSigned w64 c.args.x = c.ranges.x in
    let fy : FitsSigned w64 c.args.y = c.ranges.y in
    let i = c.loop-menu_idx.menu_idx in
    let m = c.index-menus-menu_idx.result in
    let more = rw (sym c.index-menus-menu_idx.is) at (headers-more c.args.menus.now i m c.loop-menu_idx.column c.args.y c.loop-menu_idx-test.true) in
    let fits = simp (to_z-of_z, c.loop-menu_idx.column-is) at c.loop-menu_idx.invariant.fits in
    let made = simp (to_z-of_z, c.loop-menu_idx.column-is) at c.loop-menu_idx.invariant.made in
    let first = first-rect _ _ _ _ _ (rw more at (fits (sight 0 0 0))) in
    let end : FitsSigned w64 (c.loop-menu_idx.column +ℤ pos (button_width (header_button i m))) = InRange-fits _ first.end_x in
    let after : FitsSigned w64 ((c.loop-menu_idx.column +ℤ pos (button_width (header_button i m))) +ℤ pos 1) = next-fits _ first.end_x in
    let sum = simp c.loop-menu_idx.column-is at (rw (c.in_ok-width.ensures.ok, c.header-header.ensures) at c.strict_add_unsigned-column.ensures) in
    let pushed = simp (to_z-of_z, c.loop-menu_idx.column-is) at (rw (c.in_ok-width.ensures.ok, c.header-header.ensures) at c.new.ensures) in
    rw sum (simp to_z-of_z (rw (header-next c.loop-menu_idx.column i m) (record {
      fits = λ s. others-in _ s _ (rw more at (fits s));
      made = one-more _ _ _ _ _ _ (c.in_ok-push.ensures.items ∙ ap (λ p. c.loop-menu_idx.placed.items ++ (p ∷ [])) pushed) more made;
    })))

pub returns : goal.returns
returns c =
    let fx : FitsSigned w64 c.args.x = c.ranges.x in
    let fy : FitsSigned w64 c.args.y = c.ranges.y in
    let made = simp (to_z-of_z, c.loop-menu_idx.column-is) at c.loop-menu_idx.invariant.made in
    record { ok = sym (append-nil _) ∙ ap (λ k. c.loop-menu_idx.placed.items ++ k) (sym (headers-end _ _ _ _ c.loop-menu_idx-test.false)) ∙ made }
