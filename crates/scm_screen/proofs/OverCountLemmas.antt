-- The menu bar and the dialogs take few draw calls.
use Rattle.std.proofs.Common.{◌≡◌, ℕ, zero, suc, ◌-◌, ◌≤◌, Bool, true, false, List, [], take, refl, ap, ◌∙◌, arith, Option, Some, None}
use Rattle.std.specs.Prelude.{ℤ, pos}
use Rattle.scm_cells.specs.Counts.{Counts, no_counts, added}
use Rattle.scm_render.specs.Canvas.{Sight}
use Rattle.scm_render.proofs.CountLemmas.{raised_by-most}
use Rattle.scm_document.specs.declared.commit_view.CommitView.{CommitView}
use Rattle.scm_document.specs.ViewColumns.{view_count, view_width, views_counts}
use Rattle.scm_overlay.specs.declared.quit_dialog.QuitDialog.{QuitDialog}
use Rattle.scm_overlay.specs.Counts.{open_calls, bar_calls, quit_calls, help_calls}
use Rattle.scm_overlay.specs.Menus.{open_menu, open_menu_with_column}
use Rattle.scm_overlay.specs.Tables.{menus_with}
use Rattle.scm_view.specs.declared.app_view.AppView.{AppView}
use Rattle.scm_view.specs.AppView.{app_counts}
use Rattle.scm_view.specs.ViewState.{ViewState}
use Rattle.scm_view.specs.Window.{IsFew}
use Rattle.scm_screen.specs.DocumentRows.{AreFew}
use Rattle.scm_screen.specs.Overlaid.{AreFewOver, HasOverlays}

-- an open menu has at most nine items
menu-few : (k : Option ℕ) → open_calls (open_menu (menus_with k)) ≤ 18
unfolding open_menu_with_column
menu-few None = omega arith
menu-few (Some zero) = omega arith
menu-few (Some (suc zero)) = omega arith
menu-few (Some (suc (suc zero))) = omega arith
menu-few (Some (suc (suc (suc zero)))) = omega arith
menu-few (Some (suc (suc (suc (suc n))))) = omega arith

bar-few : (k : Option ℕ) → bar_calls (menus_with k) ≤ 23
unfolding bar_calls
bar-few k = omega (arith, menu-few k)

quit-few : (q : Option QuitDialog) → quit_calls q ≤ 3
quit-few None = omega arith
quit-few (Some q) = omega arith

help-few : (b : Bool) → help_calls b ≤ 2
help-few true = omega arith
help-few false = omega arith

-- no documents count nothing
none-counted : (vs : List CommitView) (n m : ℕ) (t : Sight) (x : ℤ) → vs ≡ [] → views_counts (take n vs) m t x ≡ no_counts
unfolding views_counts
none-counted vs n m t x e = ap (λ us. views_counts (take n us) m t x) e ∙ go n
  where
    go : (n : ℕ) → views_counts (take n []) m t x ≡ no_counts
    go zero = refl
    go (suc n) = refl

over-most : (s : ViewState) (a : AppView) (t : Sight) → HasOverlays s a → ((app_counts a t (pos 0)).rows ≤ 0) × ((app_counts a t (pos 0)).calls ≤ 28)
unfolding app_counts
over-most s a t o =
    let none = none-counted a.commit_views (view_count a.commit_view_mode) (view_width a.commit_view_mode t.rect.width) t (pos 0) o.documents in
    let bar = bar-few s.open_menu in
    let leaving = quit-few s.quit_dialog in
    let help = help-few s.is_help_open in
    rw (none, o.menu_bar, o.quit_dialog, o.help_dialog) (omega arith, omega (arith, bar, leaving, help))

-- what a view without documents counts
pub over-counted : (s : ViewState) (a : AppView) (t : Sight) (before after last : Counts) → HasOverlays s a → last ≡ after
    → after ≡ added before (record { rows = (app_counts a t (pos 0)).rows; calls = (app_counts a t (pos 0)).calls })
    → AreFewOver before last
unfolding added
over-counted s a t before after last o k e =
    let most = over-most s a t o in
    let rows = raised_by-most (app_counts a t (pos 0)).rows before.rows in
    let calls = raised_by-most (app_counts a t (pos 0)).calls before.calls in
    rw (k, e) (record { begun = omega (arith, rows, most.0); calls = omega (arith, calls, most.1) })

-- a cleared screen counts few rows and calls after the document was painted from row `first` of it on, and what lies over it
pub window-few : (h first n : ℕ) (blank under top over : Counts) → n ≡ h → blank ≡ no_counts → AreFew (n - first) blank under → AreFew 1 under top → AreFewOver top over → IsFew h over
window-few h first n blank under top over tall none p q r =
    let rows = ap (λ (c : Counts). c.rows) none in
    let calls = ap (λ (c : Counts). c.calls) none in
    record { rows = omega (arith, tall, rows, p.begun, q.begun, r.begun); calls = omega (arith, tall, calls, p.calls, q.calls, r.calls) }
