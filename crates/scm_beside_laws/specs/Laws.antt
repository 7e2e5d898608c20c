-- The window of two commits beside each other is what the components draw: theorems on definitions, for each session that is shown.
use Rattle.std.specs.Prelude.{◌≡◌, ℕ, ◌<◌, ◌≤◌, pos, Bool, option_map, replicate}
use Rattle.scm_render.specs.Canvas.{paint_rows}
use Rattle.scm_render.specs.Hits.{IsLawful, box_of, latest}
use Rattle.scm_render.specs.Picture.{part}
use Rattle.scm_types.specs.declared.keys.SelectionKey.{SelectionKey}
use Rattle.scm_widgets.specs.declared.ids.ComponentId.{ComponentId}
use Rattle.scm_widgets.specs.declared.ids.ComponentId.TheVariants as ids
use Rattle.scm_widgets.specs.Blanks.{blank_row}
use Rattle.scm_widgets.specs.Clicks.{is_clickable}
use Rattle.scm_widgets.specs.Layers.{shown_by}
use Rattle.scm_widgets.specs.Screens.{screen, sight}
use Rattle.scm_document.specs.declared.commit_view.CommitViewMode.TheVariants.{Adjacent}
use Rattle.scm_document.specs.ViewColumns.{view_width}
use Rattle.scm_overlay.specs.Overlays.{overlays}
use Rattle.scm_strips.specs.Shows.{whole}
use Rattle.scm_view.specs.declared.app_view.AppView.{AppView}
use Rattle.scm_view.specs.AppView.{ShowsSession, app_picture}
use Rattle.scm_view.specs.ViewState.{ViewState}
use Rattle.scm_view.specs.Window.{height_of_box, rows_of_box}
use Rattle.scm_screen.specs.Beside.{document_at, extent_beside, owner_beside, second_area, span_beside, window_beside}
use Rattle.scm_screen.specs.DocumentRows.{each_row, painted_rows}

-- The view shows the session's two commits beside each other, on a screen of at least 21 columns and two rows. There each commit has ten
-- columns or more.
pub record IsBeside (a : AppView) (shown : ViewState) (w h : ℕ) : Type 0 where
  pub shows : ShowsSession a shown
  pub view_mode : shown.view_mode ≡ Adjacent
  pub wide : 21 ≤ w
  pub high : 2 ≤ h
  pub width : w ≤ 65535
  pub height : h ≤ 65535

-- ---- what is shown

-- Painting on a cleared screen leaves the window.
abbrev pub AppsShowWindowsBeside : Type 0
AppsShowWindowsBeside =
    (shown : ViewState) (a : AppView) (w h s : ℕ) → IsBeside a shown w h
    → paint_rows (screen w h s) (app_picture a (sight w h s) (pos 0) (pos 0)).puts (pos s) (replicate h (blank_row w))
    ≡ window_beside w h s shown

-- At any size, the window of two commits is the first document painted on a blank screen, the second one over it, and over both the menu bar
-- and the open dialogs.
abbrev pub WindowsBesideArePainted : Type 0
WindowsBesideArePainted =
    (w h s : ℕ) (shown : ViewState) → shown.view_mode ≡ Adjacent
    → window_beside w h s shown
    ≡ each_row (shown_by (overlays w h s shown.open_menu shown.quit_dialog shown.is_help_open)) s
    (painted_rows (second_area w (view_width Adjacent w) (document_at shown 0)) s (document_at shown 1)
    (painted_rows (whole (view_width Adjacent w)) s (document_at shown 0) (replicate h (blank_row w))))

-- ---- clicks

-- The latest clickable box at a place is that of its owner.
abbrev pub ClicksFindOwnersBeside : Type 0
ClicksFindOwnersBeside =
    (same : ComponentId → ComponentId → Bool) → IsLawful same
    → (shown : ViewState) (a : AppView) (w h s : ℕ) → IsBeside a shown w h → (y x : ℕ) → x < w
    → latest same is_clickable (part ids.App (app_picture a (sight w h s) (pos 0) (pos 0))).boxes (pos y) (pos x)
    ≡ owner_beside w h s shown y x

-- ---- keys

-- The box of each key covers the key's rows.
abbrev pub KeysHaveRowsBeside : Type 0
KeysHaveRowsBeside =
    (same : ComponentId → ComponentId → Bool) → IsLawful same
    → (shown : ViewState) (a : AppView) (w h s : ℕ) → IsBeside a shown w h → (k : SelectionKey)
    → option_map rows_of_box (box_of same (ids.SelectableItem k) (part ids.App (app_picture a (sight w h s) (pos 0) (pos 0))).boxes)
    ≡ span_beside w shown k

-- ---- the extent

-- The box of the whole screen is as high as the extent.
abbrev pub AppsHaveExtentsBeside : Type 0
AppsHaveExtentsBeside =
    (same : ComponentId → ComponentId → Bool) → IsLawful same
    → (shown : ViewState) (a : AppView) (w h s : ℕ) → IsBeside a shown w h
    → height_of_box (box_of same ids.App (part ids.App (app_picture a (sight w h s) (pos 0) (pos 0))).boxes) ≡ extent_beside w h s shown
