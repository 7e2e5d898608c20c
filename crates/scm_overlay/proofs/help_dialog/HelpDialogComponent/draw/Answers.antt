use Rattle.std.proofs.Common.{rules, ◌∙◌, ◌+◌, [], ◌∷◌, length, ap, sym, subst}
use Rattle.scm_cells.specs.Counts.{added}
use Rattle.scm_render.specs.Canvas.{with_picture}
use Rattle.scm_render.specs.Picture.{PictureInRange, part}
use Rattle.scm_widgets.specs.Counts.{drawn}
use Rattle.scm_widgets.specs.ShownDialogs.{ShownDialog}
use Rattle.scm_widgets.specs.declared.ids.ComponentId.{ComponentId}
use Rattle.scm_overlay.specs.Dialogs.{dialog_picture}
use Rattle.scm_overlay.specs.Tables.{help_dialog, named_dialog_picture}
use Rattle.scm_overlay.proofs.help_dialog.HelpDialogComponent.draw.Goals as goal

pub draw_part-requires : goal.draw_part-requires
unfolding named_dialog_picture
draw_part-requires c =
    let e = c.dialog.ensures ∙ ap (λ b. record help_dialog { buttons = b ∷ [] }) c.close_button.ensures in
    subst (λ (d : ShownDialog ComponentId). PictureInRange (part d.id (dialog_picture d c.args.viewport.now.canvas.sight))) (sym e) c.requires

pub returns : goal.returns
unfolding named_dialog_picture
returns c =
    let e = c.dialog.ensures ∙ ap (λ b. record help_dialog { buttons = b ∷ [] }) c.close_button.ensures in
    let v = c.args.viewport.now in
    record {
      ok = c.in_ok-draw_part.ensures.ok ∙ ap (λ (d : ShownDialog ComponentId). with_picture v.canvas (part d.id (dialog_picture d v.canvas.sight))) e;
      counts = c.in_ok-draw_part.ensures.counts ∙ ap (λ (d : ShownDialog ComponentId). added v.counts (drawn 0 (1 + length d.buttons))) e;
      rect = search rules;
      err = search rules;
    }
