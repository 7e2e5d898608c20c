use Rattle.std.proofs.Common.{rules, ◌∙◌, ◌+◌, ap}
use Rattle.scm_cells.specs.Counts.{added}
use Rattle.scm_render.proofs.PictureLemmas.{PictureInRange-left, PictureInRange-right}
use Rattle.scm_render.proofs.StepLemmas.{step, rest}
use Rattle.scm_widgets.specs.Buttons.{placed_picture}
use Rattle.scm_widgets.proofs.CountLemmas.{calls-then}
use Rattle.scm_widgets.proofs.PlacedLemmas.{placed-any}
use Rattle.scm_overlay.specs.Dialogs.{shown_dialog, dialog_buttons, dialog_rect, dialog_picture}
use Rattle.scm_overlay.proofs.PlaceLemmas.{length-right}
use Rattle.scm_overlay.proofs.dialog.DialogComponent.draw.Goals as goal

pub draw_frame-requires : goal.draw_frame-requires
unfolding dialog_picture
draw_frame-requires g c =
    let place = rw c.rect.ensures.value at c.dialog_place-place.ensures.place in
    rw (place, c.as_str.ensures) (PictureInRange-left _ _ c.requires)

pub place_buttons-requires-clause-buttons : goal.place_buttons-requires-clause-buttons
unfolding dialog_picture
place_buttons-requires-clause-buttons g c =
    let place = rw c.rect.ensures.value at c.dialog_place-place.ensures.place in
    rw place (placed-any _ _ (PictureInRange-right _ _ c.requires))

pub draw_buttons-requires : goal.draw_buttons-requires
unfolding dialog_picture
draw_buttons-requires g c =
    let place = rw c.rect.ensures.value at c.dialog_place-place.ensures.place in
    let d = shown_dialog c.args.self.now in
    let r = dialog_rect d c.args.viewport.now.canvas.sight.rect in
    let frame = rw (place, c.as_str.ensures) at c.in_ok-draw_frame.ensures.draws.ok in
    rw (c.as_slice.ensures.value, rw place at c.in_ok-buttons.ensures.ok) (rest _ _ _ (λ s. placed_picture s (dialog_buttons d r)) frame c.requires)

pub returns : goal.returns
unfolding dialog_picture
returns g c =
    let place = rw c.rect.ensures.value at c.dialog_place-place.ensures.place in
    let d = shown_dialog c.args.self.now in
    let r = dialog_rect d c.args.viewport.now.canvas.sight.rect in
    let frame = rw (place, c.as_str.ensures) at c.in_ok-draw_frame.ensures.draws.ok in
    let drawn = rw (c.as_slice.ensures.value, rw place at c.in_ok-buttons.ensures.ok) at c.in_ok-draw_buttons.ensures in
    record {
      ok = step _ _ _ _ (λ s. placed_picture s (dialog_buttons d r)) frame drawn.ok;
      counts = calls-then _ _ _ 1 _ c.in_ok-draw_frame.ensures.draws.counts drawn.counts ∙ ap (λ n. added c.args.viewport.now.counts (record { rows = 0; calls = 1 + n })) (length-right _ _ d.buttons);
      rect = search rules;
      err = search rules;
    }
