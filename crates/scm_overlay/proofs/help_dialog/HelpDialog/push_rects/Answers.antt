use Rattle.std.proofs.Common.{◌≡◌, ◌∙◌, ◌++◌, [], ◌∷◌, ap, sym, subst, arith, IfOk, OnOk}
use Rattle.scm_widgets.specs.Buttons.{ArePlacedInRange}
use Rattle.scm_widgets.specs.ShownDialogs.{ShownDialog}
use Rattle.scm_widgets.specs.declared.ids.ComponentId.{ComponentId}
use Rattle.scm_overlay.specs.Dialogs.{dialog_buttons, dialog_rect}
use Rattle.scm_overlay.specs.OverlayRects.{dialog_rects, dialog_run}
use Rattle.scm_overlay.specs.Tables.{help_dialog}
use Rattle.scm_overlay.proofs.RangeLemmas.{bounds-in, dialog-placed}
use Rattle.scm_overlay.proofs.FixedLemmas.{short_help}
use Rattle.scm_overlay.proofs.help_dialog.HelpDialog.push_rects.Goals as goal

pub push_rects-requires-clause-screen : goal.push_rects-requires-clause-screen
push_rects-requires-clause-screen c = bounds-in _ c.requires

pub push_rects-requires-clause-buttons : goal.push_rects-requires-clause-buttons
push_rects-requires-clause-buttons c =
    let e = c.dialog.ensures ∙ ap (λ b. record help_dialog { buttons = b ∷ [] }) c.close_button.ensures in
    subst (λ (d : ShownDialog ComponentId). ArePlacedInRange (dialog_buttons d (dialog_rect d c.args.screen))) (sym e)
    (dialog-placed help_dialog c.args.screen c.requires (omega (arith, short_help)))

pub returns-clause-rows : goal.returns-clause-rows
returns-clause-rows c =
    let e = c.dialog.ensures ∙ ap (λ b. record help_dialog { buttons = b ∷ [] }) c.close_button.ensures in
    subst (λ (d : ShownDialog ComponentId). IfOk c.push_rects.result (λ r. r ≡ dialog_run c.args.screen d)) e c.push_rects.ensures.rows

pub returns-clause-ok : goal.returns-clause-ok
returns-clause-ok c =
    let e = c.dialog.ensures ∙ ap (λ b. record help_dialog { buttons = b ∷ [] }) c.close_button.ensures in
    subst (λ (d : ShownDialog ComponentId). OnOk c.push_rects.result (c.push_rects.new.rects.items ≡ c.args.rects.now.items ++ dialog_rects c.args.screen d)) e c.push_rects.ensures.ok
