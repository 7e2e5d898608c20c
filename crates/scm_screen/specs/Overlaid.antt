-- A view that has what lies over the documents of a session, and no document, and what its painting counts.
use Rattle.std.specs.Prelude.{◌≡◌, ◌+◌, ◌≤◌, []}
use Rattle.scm_cells.specs.Counts.{Counts}
use Rattle.scm_overlay.specs.Tables.{menus_with}
use Rattle.scm_view.specs.declared.app_view.AppView.{AppView}
use Rattle.scm_view.specs.AppView.{has_help}
use Rattle.scm_view.specs.ViewState.{ViewState}

-- view a has the menu bar and the dialogs of session s, and no document
pub record HasOverlays (s : ViewState) (a : AppView) : Type 0 where
  pub documents : a.commit_views ≡ []
  pub menu_bar : a.menu_bar ≡ menus_with s.open_menu
  pub quit_dialog : a.quit_dialog ≡ s.quit_dialog
  pub help_dialog : has_help a.help_dialog ≡ s.is_help_open

-- the counts after the menu bar and the dialogs were painted: no row begins, and there are at most 28 draw calls more
pub record AreFewOver (before after : Counts) : Type 0 where
  pub begun : after.rows ≤ before.rows
  pub calls : after.calls ≤ before.calls + 28
