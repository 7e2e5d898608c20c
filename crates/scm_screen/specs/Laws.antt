-- Laws of windows: that of one commit is the inline window, and rows of documents are what their layers show.
use Rattle.std.specs.Prelude.{◌≡◌, ℕ, ◌<◌, ◌≤◌, replicate}
use Rattle.scm_render.specs.Canvas.{Row}
use Rattle.scm_document.specs.Rows.{Document}
use Rattle.scm_widgets.specs.Blanks.{blank_row}
use Rattle.scm_widgets.specs.Layers.{shown_by}
use Rattle.scm_overlay.specs.Overlays.{overlays}
use Rattle.scm_strips.specs.declared.area.Area.{Area}
use Rattle.scm_strips.specs.AreaStrips.{area_layers}
use Rattle.scm_strips.specs.Shows.{whole}
use Rattle.scm_types.specs.declared.keys.SelectionKey.{SelectionKey}
use Rattle.scm_document.specs.declared.commit_view.CommitViewMode.TheVariants.{Inline}
use Rattle.scm_view.specs.ViewState.{ViewState}
use Rattle.scm_view.specs.Window.{body_layers, extent, inline_document, owner, span, window}
use Rattle.scm_screen.specs.Beside.{extent_beside, owner_beside, span_beside, window_beside}
use Rattle.scm_screen.specs.DocumentRows.{each_row, painted_rows, with_document}

-- in any area and at any size, a row of a document shows what the document's layers show there
abbrev pub RowsShowLayers : Type 0
RowsShowLayers = (a : Area) (h s z : ℕ) (d : Document) (row : Row) → with_document a h s d z row ≡ shown_by (area_layers a h s d) z row

-- on ten columns or more, a row of a document shows what the layers of the inline window show there
abbrev pub RowsShowInline : Type 0
RowsShowInline = (w h s z : ℕ) (d : Document) (row : Row) → 10 ≤ w → with_document (whole w) h s d z row ≡ shown_by (body_layers w h s d) z row

-- at any size, the window of one commit is its document painted on a blank screen, and over it the menu bar and the open dialogs
abbrev pub WindowsArePainted : Type 0
WindowsArePainted =
    (w h s : ℕ) (shown : ViewState) → shown.view_mode ≡ Inline
    → window_beside w h s shown
    ≡ each_row (shown_by (overlays w h s shown.open_menu shown.quit_dialog shown.is_help_open)) s
    (painted_rows (whole w) s (inline_document shown) (replicate h (blank_row w)))

-- on ten columns or more, the rows of one commit are those of the inline window
abbrev pub InlineRowsAreWindows : Type 0
InlineRowsAreWindows = (w h s : ℕ) (shown : ViewState) → shown.view_mode ≡ Inline → 10 ≤ w → window_beside w h s shown ≡ window w h s shown

-- on ten columns or more, the owners of one commit are those of the inline window
abbrev pub InlineOwnersAreWindows : Type 0
InlineOwnersAreWindows =
    (w h s : ℕ) (shown : ViewState) → shown.view_mode ≡ Inline → 10 ≤ w → (y x : ℕ) → x < w → owner_beside w h s shown y x ≡ owner w h s shown y x

-- the rows of a key of one commit are those of the inline window
abbrev pub InlineKeysAreWindows : Type 0
InlineKeysAreWindows = (w : ℕ) (shown : ViewState) → shown.view_mode ≡ Inline → (k : SelectionKey) → span_beside w shown k ≡ span shown k

-- the extent of one commit is that of the inline window
abbrev pub InlineExtentsAreWindows : Type 0
InlineExtentsAreWindows = (w h s : ℕ) (shown : ViewState) → shown.view_mode ≡ Inline → 10 ≤ w → extent_beside w h s shown ≡ extent w h s shown
