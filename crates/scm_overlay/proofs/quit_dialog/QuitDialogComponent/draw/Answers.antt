use Rattle.std.proofs.Common.{rules, ◌∙◌, ◌+◌, [], ◌∷◌, length, ap, ap₂, sym, subst}
use Rattle.std.specs.Prelude.{ℕ, List, codes}
use Rattle.scm_widgets.specs.ShownDialogs.{ShownDialog}
use Rattle.scm_widgets.specs.declared.ids.ComponentId.{ComponentId}
use Rattle.scm_widgets.specs.declared.ids.ComponentId.TheVariants as ids
use Rattle.scm_cells.specs.Counts.{added}
use Rattle.scm_render.specs.Canvas.{with_picture}
use Rattle.scm_render.specs.Picture.{PictureInRange, part}
use Rattle.scm_widgets.specs.Counts.{drawn}
use Rattle.scm_overlay.specs.Dialogs.{dialog_picture}
use Rattle.scm_overlay.specs.Tables.{named_dialog_picture}
use Rattle.scm_overlay.proofs.quit_dialog.QuitDialogComponent.draw.Goals as goal

pub draw_part-requires : goal.draw_part-requires
unfolding named_dialog_picture
draw_part-requires c =
    let e = c.dialog-dialog.ensures ∙ ap₂ (λ (text : List ℕ) bs. record { id = ids.QuitDialog; title = codes "Quit"; body = text ∷ []; buttons = bs }) (c.as_str.ensures.value ∙ c.in_ok-text.ensures.ok) (ap₂ (λ a b. a ∷ (b ∷ [])) c.quit_button.ensures c.go_back_button.ensures) in
    subst (λ (d : ShownDialog ComponentId). PictureInRange (part d.id (dialog_picture d c.args.viewport.now.canvas.sight))) (sym e) c.requires

pub returns : goal.returns
unfolding named_dialog_picture
returns c =
    let e = c.dialog-dialog.ensures ∙ ap₂ (λ (text : List ℕ) bs. record { id = ids.QuitDialog; title = codes "Quit"; body = text ∷ []; buttons = bs }) (c.as_str.ensures.value ∙ c.in_ok-text.ensures.ok) (ap₂ (λ a b. a ∷ (b ∷ [])) c.quit_button.ensures c.go_back_button.ensures) in
    let v = c.args.viewport.now in
    record {
      ok = c.in_ok-draw_part.ensures.ok ∙ ap (λ (d : ShownDialog ComponentId). with_picture v.canvas (part d.id (dialog_picture d v.canvas.sight))) e;
      counts = c.in_ok-draw_part.ensures.counts ∙ ap (λ (d : ShownDialog ComponentId). added v.counts (drawn 0 (1 + length d.buttons))) e;
      rect = search rules;
      err = search rules;
    }
