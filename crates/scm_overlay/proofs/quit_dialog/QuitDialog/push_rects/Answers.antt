use Rattle.std.proofs.Common.{◌≡◌, ◌∙◌, ◌++◌, [], ◌∷◌, ap₂, sym, subst, arith, IfOk, OnOk}
use Rattle.std.specs.Prelude.{ℕ, List, codes}
use Rattle.scm_widgets.specs.ShownDialogs.{ShownDialog}
use Rattle.scm_widgets.specs.declared.ids.ComponentId.{ComponentId}
use Rattle.scm_widgets.specs.declared.ids.ComponentId.TheVariants as ids
use Rattle.scm_widgets.specs.Buttons.{ArePlacedInRange}
use Rattle.scm_overlay.specs.Dialogs.{dialog_buttons, dialog_rect}
use Rattle.scm_overlay.specs.OverlayRects.{dialog_rects, dialog_run}
use Rattle.scm_overlay.specs.Tables.{quit_dialog}
use Rattle.scm_overlay.proofs.RangeLemmas.{bounds-in, dialog-placed}
use Rattle.scm_overlay.proofs.FixedLemmas.{short_quit}
use Rattle.scm_overlay.proofs.quit_dialog.QuitDialog.push_rects.Goals as goal

pub push_rects-requires-clause-screen : goal.push_rects-requires-clause-screen
push_rects-requires-clause-screen c = bounds-in _ c.requires

pub push_rects-requires-clause-buttons : goal.push_rects-requires-clause-buttons
push_rects-requires-clause-buttons c =
    let e = c.dialog-dialog.ensures ∙ ap₂ (λ (text : List ℕ) bs. record { id = ids.QuitDialog; title = codes "Quit"; body = text ∷ []; buttons = bs }) (c.as_str.ensures.value ∙ c.in_ok-text.ensures.ok) (ap₂ (λ a b. a ∷ (b ∷ [])) c.quit_button.ensures c.go_back_button.ensures) in
    subst (λ (d : ShownDialog ComponentId). ArePlacedInRange (dialog_buttons d (dialog_rect d c.args.screen))) (sym e)
    (dialog-placed (quit_dialog c.args.self.now) c.args.screen c.requires (omega (arith, short_quit c.args.self.now)))

pub returns-clause-rows : goal.returns-clause-rows
returns-clause-rows c =
    let e = c.dialog-dialog.ensures ∙ ap₂ (λ (text : List ℕ) bs. record { id = ids.QuitDialog; title = codes "Quit"; body = text ∷ []; buttons = bs }) (c.as_str.ensures.value ∙ c.in_ok-text.ensures.ok) (ap₂ (λ a b. a ∷ (b ∷ [])) c.quit_button.ensures c.go_back_button.ensures) in
    subst (λ (d : ShownDialog ComponentId). IfOk c.push_rects.result (λ r. r ≡ dialog_run c.args.screen d)) e c.push_rects.ensures.rows

pub returns-clause-ok : goal.returns-clause-ok
returns-clause-ok c =
    let e = c.dialog-dialog.ensures ∙ ap₂ (λ (text : List ℕ) bs. record { id = ids.QuitDialog; title = codes "Quit"; body = text ∷ []; buttons = bs }) (c.as_str.ensures.value ∙ c.in_ok-text.ensures.ok) (ap₂ (λ a b. a ∷ (b ∷ [])) c.quit_button.ensures c.go_back_button.ensures) in
    subst (λ (d : ShownDialog ComponentId). OnOk c.push_rects.result (c.push_rects.new.rects.items ≡ c.args.rects.now.items ++ dialog_rects c.args.screen d)) e c.push_rects.ensures.ok
