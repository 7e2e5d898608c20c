use Rattle.std.proofs.Common.{◌∙◌, ap, ap₂, FitsSigned, w64}
use Rattle.std.proofs.lemmas.Int.{to_z-of_z}
use Rattle.scm_cells.specs.Rect.{end_x_of, end_y_of, or_zero}
use Rattle.scm_render.proofs.StepLemmas.{InRange-fits}
use Rattle.scm_widgets.specs.Screens.{sight}
use Rattle.scm_overlay.specs.Dialogs.{dialog_buttons, dialog_rect, shown_dialog}
use Rattle.scm_overlay.specs.OverlayRects.{least_column}
use Rattle.scm_overlay.proofs.DialogPlaceLemmas.{less-nothing, least-in}
use Rattle.scm_overlay.proofs.PlaceLemmas.{one-then}
use Rattle.scm_overlay.proofs.dialog.Dialog+ComponentId.push_rects.Goals as goal

pub place_buttons-requires-clause-buttons : goal.place_buttons-requires-clause-buttons
place_buttons-requires-clause-buttons c = rw c.dialog_place-place.ensures.place c.requires.buttons

pub returns-clause-rows : goal.returns-clause-rows
returns-clause-rows c =
    let r = dialog_rect (shown_dialog c.args.self.now) c.args.screen in
    let place = c.dialog_place-place.ensures.place in
    let fits = rw place at c.dialog_place-place.ensures.in_range in
    let fy : FitsSigned w64 r.y = InRange-fits _ fits.y in
    let fe : FitsSigned w64 (end_y_of r) = InRange-fits _ fits.end_y in
    let top = simp to_z-of_z at (rw place at c.gap.ensures) in
    let end = simp to_z-of_z at (rw (rw place at c.end_y.ensures) at c.gap-2.ensures) in
    ap₂ (λ a b. (a, b)) (top ∙ ap or_zero (less-nothing r.y)) (end ∙ ap or_zero (less-nothing (end_y_of r)))

pub returns-clause-ok : goal.returns-clause-ok
returns-clause-ok c =
    let d = shown_dialog c.args.self.now in
    let r = dialog_rect d c.args.screen in
    let place = c.dialog_place-place.ensures.place in
    let fits = rw place at c.dialog_place-place.ensures.in_range in
    let fx : FitsSigned w64 r.x = InRange-fits _ fits.x in
    let fy : FitsSigned w64 r.y = InRange-fits _ fits.y in
    let fe : FitsSigned w64 (end_x_of r) = InRange-fits _ fits.end_x in
    let fl : FitsSigned w64 (least_column r.x (dialog_buttons d r)) = InRange-fits _ (least-in r.x _ _ (sight 0 0 0) d.buttons fits.x (c.requires.buttons (sight 0 0 0))) in
    let buttons = rw place at c.in_ok-buttons.ensures.ok in
    let x = simp to_z-of_z at (rw (c.as_slice.ensures.value, buttons, place) at c.least_column-x.ensures) in
    let width = simp to_z-of_z at (rw (x, rw place at c.end_x.ensures) at c.gap-width.ensures) in
    let pushed = simp to_z-of_z at (rw (width, x, place) at c.in_ok-push.ensures.items) in
    let owned = rw (c.as_slice-2.ensures.value, buttons) at c.in_ok-push_buttons.ensures.ok in
    one-then _ _ _ _ _ pushed owned
