-- The whole screen: the documents of the commits, the menu bar and the open dialogs.
use Rattle.std.specs.Prelude.{◌≡◌, ℕ, suc, ◌≤◌, ℤ, pos, List, [], ◌∷◌, length, take, Bool, true, false, Option, Some, None}
use Rattle.scm_types.specs.Limits.{is_accepted_state, max_scroll}
use Rattle.scm_render.specs.Canvas.{Sight}
use Rattle.scm_render.specs.Picture.{Picture, PictureInRange, nothing, followed_by, part}
use Rattle.scm_widgets.specs.declared.ids.ComponentId.{ComponentId}
use Rattle.scm_widgets.specs.declared.ids.ComponentId.TheVariants as ids
use Rattle.scm_view.specs.declared.app_view.AppView.{AppView}
use Rattle.scm_document.specs.declared.commit_view.CommitView.{CommitView}
use Rattle.scm_overlay.specs.declared.help_dialog.HelpDialog.{HelpDialog}
use Rattle.scm_cells.specs.Counts.{Counts, plus}
use Rattle.scm_widgets.specs.Counts.{drawn}
use Rattle.scm_overlay.specs.Counts.{bar_calls, quit_calls, help_calls}
use Rattle.scm_view.specs.ViewState.{ViewState, Shows, commit_view_of}
use Rattle.scm_overlay.specs.Menus.{menu_bar_picture}
use Rattle.scm_overlay.specs.Tables.{menus_with}
use Rattle.scm_widgets.specs.Screens.{sight}
use Rattle.scm_overlay.specs.Overlays.{quit_picture, help_picture}
use Rattle.scm_render.specs.Draws.{DrawCall}
use Rattle.scm_document.specs.ViewColumns.{view_count, view_width, view_picture, next_view, view_counts, views_counts}

-- The documents that are drawn.
abbrev pub shown_views : AppView → List CommitView
shown_views a = take (view_count a.commit_view_mode) a.commit_views

-- Documents side by side, each `n` columns wide.
unfoldable pub views_picture : List CommitView → ℕ → Sight → ℤ → Picture ComponentId
views_picture [] n s x = nothing
views_picture (v ∷ vs) n s x =
    followed_by (part ids.AppFiles (view_picture v s x n)) (views_picture vs n s (next_view v s x n))

-- Whether the help dialog is open.
abbrev pub has_help : Option HelpDialog → Bool
has_help None = false
has_help (Some h) = true

-- The documents below the menu bar; the menu bar on the screen's first row, with its open menu; the quit dialog; the help dialog.
unfoldable pub app_picture : AppView → Sight → ℤ → ℤ → Picture ComponentId
app_picture a s x y =
    followed_by (views_picture (shown_views a) (view_width a.commit_view_mode s.rect.width) s x)
    (followed_by (part ids.MenuBar (menu_bar_picture a.menu_bar s x s.rect.y))
    (followed_by (quit_picture a.quit_dialog s) (help_picture (has_help a.help_dialog) s)))

-- What drawing the whole screen counts. Only documents count rows.
unfoldable pub app_counts : AppView → Sight → ℤ → Counts
app_counts a s x =
    plus (views_counts (shown_views a) (view_width a.commit_view_mode s.rect.width) s x)
    (plus (drawn 0 (bar_calls a.menu_bar))
    (plus (drawn 0 (quit_calls a.quit_dialog)) (drawn 0 (help_calls (has_help a.help_dialog)))))

-- ---- draw calls

-- The document `v` as a component, in columns `x..x + n`.
abbrev pub view_call : CommitView → ℤ → ℕ → DrawCall ComponentId
view_call v x n = record {
  picture = λ s. part ids.AppFiles (view_picture v s x n);
  counts = λ s. view_counts v s x n;
}

-- The documents `vs` side by side from column `x` on, each `n` columns wide.
abbrev pub views_call : List CommitView → ℤ → ℕ → DrawCall ComponentId
views_call vs x n = record { picture = λ s. views_picture vs n s x; counts = λ s. views_counts vs n s x }

-- ---- views of a session

-- The views show the session's commits in order, from commit `commit` on.
abbrev pub ShowInOrder : List CommitView → ViewState → ℕ → Type 0
ShowInOrder [] shown commit = Unit {0}
ShowInOrder (v ∷ vs) shown commit = Shows v shown commit × ShowInOrder vs shown (suc commit)

-- The view `a` shows the session: its commits, as many as its view mode draws, its open menu and its dialogs.
pub record ShowsSession (a : AppView) (shown : ViewState) : Type 0 where
  pub menu_bar : a.menu_bar ≡ menus_with shown.open_menu
  pub view_mode : a.commit_view_mode ≡ shown.view_mode
  pub views : ShowInOrder a.commit_views shown 0
  pub count : view_count shown.view_mode ≤ length a.commit_views
  pub quit_dialog : a.quit_dialog ≡ shown.quit_dialog
  pub help_dialog : has_help a.help_dialog ≡ shown.is_help_open

-- The help dialog, if it is open.
abbrev pub help_dialog_if_open : Bool → Option HelpDialog
help_dialog_if_open true = Some (record {})
help_dialog_if_open false = None

-- The view of a session: both commits, the open menu and the open dialogs.
abbrev pub app_view_of : ViewState → AppView
app_view_of shown = record {
  menu_bar = menus_with shown.open_menu;
  commit_view_mode = shown.view_mode;
  commit_views = commit_view_of shown 0 ∷ (commit_view_of shown 1 ∷ []);
  quit_dialog = shown.quit_dialog;
  help_dialog = help_dialog_if_open shown.is_help_open;
}

-- What is drawn depends on the session alone.
abbrev pub AppsAreDrawnAlike : Type 0
AppsAreDrawnAlike =
    (shown : ViewState) (a : AppView) (s : Sight) (x y : ℤ) → ShowsSession a shown
    → app_picture a s x y ≡ app_picture (app_view_of shown) s x y

-- All that is drawn of a session with an accepted state is in range, at each screen size and scroll.
abbrev pub AppsAreInRange : Type 0
AppsAreInRange =
    (shown : ViewState) (a : AppView) (w h s : ℕ) (y : ℤ) → is_accepted_state shown.state ≡ true → ShowsSession a shown
    → w ≤ 65535 → h ≤ 65535 → s ≤ max_scroll → PictureInRange (part ids.App (app_picture a (sight w h s) (pos 0) y))
