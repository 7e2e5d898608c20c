-- What the inline view draws: one document below the menu bar, and what lies over it.
use Rattle.std.proofs.Common.{◌≡◌, ◌∙◌, ℕ, ◌-◌, ℤ, pos, ◌+ℤ◌, ◌-ℤ◌, List, ◌∷◌, take, refl, ap, arith}
use Rattle.std.specs.Prelude.{min}
use Rattle.std.specs.Int.{int_min, int_max}
use Rattle.scm_cells.specs.Rect.{or_zero}
use Rattle.scm_cells.proofs.RectLemmas.{places}
use Rattle.scm_render.specs.Picture.{followed_by, part}
use Rattle.scm_render.specs.Canvas.{under}
use Rattle.scm_widgets.specs.declared.ids.ComponentId.TheVariants as ids
use Rattle.scm_view.specs.declared.app_view.AppView.{AppView}
use Rattle.scm_document.specs.declared.commit_view.CommitView.{CommitView}
use Rattle.scm_document.specs.declared.commit_view.CommitViewMode.TheVariants.{Inline}
use Rattle.scm_document.specs.Pictures.{commit_picture}
use Rattle.scm_view.specs.ViewState.{ViewState}
use Rattle.scm_widgets.specs.Screens.{sight}
use Rattle.scm_overlay.proofs.OverlaysPicture.{overlays_picture}
use Rattle.scm_document.specs.ViewColumns.{view_mask}
use Rattle.scm_view.specs.AppView.{views_picture, app_picture, ShowsSession}
use Rattle.scm_document.proofs.AppShapeLemmas.{below_bar}
use Rattle.scm_document.proofs.RowsLemmas.{followed-nothing}

first-column : (w : ℕ) → int_min (int_max (pos 0) (pos 0)) (pos 0 +ℤ pos w) ≡ pos 0
first-column w = omega (arith, places)

all-columns : (w : ℕ) → min (w - or_zero (pos 0 -ℤ pos 0)) (or_zero ((pos 0 +ℤ pos w) -ℤ pos 0)) ≡ w
all-columns w = omega (arith, places)

pub whole-mask : (w h s : ℕ) → view_mask (sight w h s) (pos 0) w ≡ below_bar w s
whole-mask w h s = rw (first-column w, all-columns w) refl

pub one-view : (v : CommitView) (vs : List CommitView) (w h s : ℕ)
    → views_picture (take 1 (v ∷ vs)) w (sight w h s) (pos 0) ≡ part ids.AppFiles (commit_picture v (under (below_bar w s) (sight w h s)) (pos 0) (pos 1))
unfolding views_picture
one-view v vs w h s = followed-nothing _ ∙ ap (λ m. part ids.AppFiles (commit_picture v (under m (sight w h s)) (pos 0) (pos 1))) (whole-mask w h s)

pub app-inline : (a : AppView) (shown : ViewState) (v : CommitView) (vs : List CommitView) (w h s : ℕ) (y : ℤ) → ShowsSession a shown → shown.view_mode ≡ Inline → a.commit_views ≡ v ∷ vs
    → app_picture a (sight w h s) (pos 0) y
    ≡ followed_by (part ids.AppFiles (commit_picture v (under (below_bar w s) (sight w h s)) (pos 0) (pos 1))) (overlays_picture w h s shown.open_menu shown.quit_dialog shown.is_help_open)
unfolding app_picture
app-inline a shown v vs w h s y shows inline views =
    rw (shows.view_mode, inline, views, shows.menu_bar, shows.quit_dialog, shows.help_dialog) (ap (λ p. followed_by p (overlays_picture w h s shown.open_menu shown.quit_dialog shown.is_help_open)) (one-view v vs w h s))
