-- The inline window of a session on a screen of `w` columns and `h` rows whose first row shows row `s` of the document: its rows, the owner
-- of each place, the rows of each key, and the extent.
use Rattle.std.specs.Prelude.{◌≡◌, ℕ, zero, suc, ◌+◌, ◌*◌, ◌<◌, ◌≤◌, pos, Bool, true, List, [], ◌∷◌, ◌++◌, replicate, Option, Some, None, option_map}
use Rattle.scm_cells.specs.Rect.{or_zero}
use Rattle.scm_cells.specs.Counts.{Counts, no_counts, added}
use Rattle.scm_cells.specs.declared.rect.Rect.{Rect}
use Rattle.scm_render.specs.Canvas.{Row, paint_rows}
use Rattle.scm_render.specs.Picture.{part}
use Rattle.scm_render.specs.Hits.{IsLawful, box_of, latest}
use Rattle.scm_types.specs.declared.keys.SelectionKey.{SelectionKey}
use Rattle.scm_widgets.specs.declared.ids.ComponentId.{ComponentId}
use Rattle.scm_widgets.specs.declared.ids.ComponentId.TheVariants as ids
use Rattle.scm_view.specs.declared.app_view.AppView.{AppView}
use Rattle.scm_document.specs.declared.commit_view.CommitViewMode.TheVariants.{Inline}
use Rattle.scm_types.specs.Limits.{is_accepted_state, max_scroll}
use Rattle.scm_document.specs.Rows.{Document, document_of}
use Rattle.scm_view.specs.ViewState.{ViewState, commit_view_of}
use Rattle.scm_widgets.specs.Blanks.{blank_row}
use Rattle.scm_widgets.specs.Layers.{Layer, shown_by, owned_by, rows_around}
use Rattle.scm_document.specs.Strips.{pinned_layer}
use Rattle.scm_overlay.specs.Menus.{menu_layer}
use Rattle.scm_overlay.specs.Tables.{menus_with}
use Rattle.scm_overlay.specs.Overlays.{quit_layers, help_layers, overlays}
use Rattle.scm_document.specs.Places.{places}
use Rattle.scm_widgets.specs.Screens.{screen, sight}
use Rattle.scm_widgets.specs.Clicks.{is_clickable}
use Rattle.scm_view.specs.AppView.{app_picture, app_counts, ShowsSession}
use Rattle.scm_document.specs.DocumentRows.{rows_layers, rows_of_key}

-- ---- the layers

-- The document that the inline view shows: that of commit 0. It begins on row 1.
abbrev pub inline_document : ViewState → Document
inline_document shown = document_of (commit_view_of shown 0)

-- The same layers, and over them the pinned header on the first row below the menu bar.
abbrev pub body_layers : ℕ → ℕ → ℕ → Document → List (Layer ComponentId)
body_layers w h s d = rows_layers w h s d ++ (pinned_layer w (s + 1) 1 d ∷ [])

-- All layers: the document, and over it the menu bar with its open menu, the quit dialog and the help dialog.
abbrev pub layers : ℕ → ℕ → ℕ → ViewState → List (Layer ComponentId)
layers w h s shown = body_layers w h s (inline_document shown) ++ overlays w h s shown.open_menu shown.quit_dialog shown.is_help_open

-- ---- rows and owners

-- Screen rows, the first of which shows row `z` of the document.
unfoldable pub rows_from : ℕ → List (Layer ComponentId) → ℕ → ℕ → List Row
rows_from w ls z zero = []
rows_from w ls z (suc n) = shown_by ls z (blank_row w) ∷ rows_from w ls (suc z) n

-- The rows of the screen.
unfoldable pub window : ℕ → ℕ → ℕ → ViewState → List Row
window w h s shown = rows_from w (layers w h s shown) s h

-- The owner of column `x` on row `y` of the document, if any.
unfoldable pub owner : ℕ → ℕ → ℕ → ViewState → ℕ → ℕ → Option ComponentId
owner w h s shown y x = owned_by (layers w h s shown) y x

-- The first row of a key in the document and its number of rows, if it is drawn.
unfoldable pub span : ViewState → SelectionKey → Option (ℕ × ℕ)
span shown k = rows_of_key k (places 1 (inline_document shown))

-- ---- the extent

-- The size of the least row range that holds the menu bar with its open menu, the document, and the open dialogs.
unfoldable pub extent : ℕ → ℕ → ℕ → ViewState → ℕ
extent w h s shown =
    rows_around (menu_layer w s (menus_with shown.open_menu))
    (rows_layers w h s (inline_document shown) ++ (quit_layers w h s shown.quit_dialog ++ help_layers w h s shown.is_help_open))

-- ---- the window by drawing

-- The view shows the session inline, on a screen of at least ten columns and two rows.
pub record IsPlain (a : AppView) (shown : ViewState) (w h : ℕ) : Type 0 where
  pub shows : ShowsSession a shown
  pub view_mode : shown.view_mode ≡ Inline
  pub wide : 10 ≤ w
  pub high : 2 ≤ h
  pub width : w ≤ 65535
  pub height : h ≤ 65535

-- The view shows a session with an accepted state like this, at a scroll within the limit.
pub record ShowsInline (a : AppView) (w h s : ℕ) : Type 0 where
  pub shown : ViewState
  pub accepted : is_accepted_state shown.state ≡ true
  pub plain : IsPlain a shown w h
  pub scroll : s ≤ max_scroll

-- The first row of a box and its number of rows.
abbrev pub rows_of_box : Rect → ℕ × ℕ
rows_of_box r = (or_zero r.y, r.height)

-- The number of rows of a box, or 0 if there is none.
abbrev pub height_of_box : Option Rect → ℕ
height_of_box None = 0
height_of_box (Some r) = r.height

-- Painting on a cleared screen leaves the window.
abbrev pub AppsShowWindows : Type 0
AppsShowWindows =
    (shown : ViewState) (a : AppView) (w h s : ℕ) → IsPlain a shown w h
    → paint_rows (screen w h s) (app_picture a (sight w h s) (pos 0) (pos 0)).puts (pos s) (replicate h (blank_row w))
    ≡ window w h s shown

-- The latest clickable box at a place is that of its owner.
abbrev pub ClicksFindOwners : Type 0
ClicksFindOwners =
    (same : ComponentId → ComponentId → Bool) → IsLawful same
    → (shown : ViewState) (a : AppView) (w h s : ℕ) → IsPlain a shown w h → (y x : ℕ) → x < w
    → latest same is_clickable (part ids.App (app_picture a (sight w h s) (pos 0) (pos 0))).boxes (pos y) (pos x)
    ≡ owner w h s shown y x

-- The box of each key covers the key's rows.
abbrev pub KeysHaveRows : Type 0
KeysHaveRows =
    (same : ComponentId → ComponentId → Bool) → IsLawful same
    → (shown : ViewState) (a : AppView) (w h s : ℕ) → IsPlain a shown w h → (k : SelectionKey)
    → option_map rows_of_box (box_of same (ids.SelectableItem k) (part ids.App (app_picture a (sight w h s) (pos 0) (pos 0))).boxes)
    ≡ span shown k

-- The box of the whole screen is as high as the extent.
abbrev pub AppsHaveExtents : Type 0
AppsHaveExtents =
    (same : ComponentId → ComponentId → Bool) → IsLawful same
    → (shown : ViewState) (a : AppView) (w h s : ℕ) → IsPlain a shown w h
    → height_of_box (box_of same ids.App (part ids.App (app_picture a (sight w h s) (pos 0) (pos 0))).boxes) ≡ extent w h s shown

-- Few rows and calls for a screen of `h` rows: at most one row more than it has, for the pinned header.
pub record IsFew (h : ℕ) (c : Counts) : Type 0 where
  pub rows : c.rows ≤ h + 1
  pub calls : c.calls ≤ 8 * (h + 1) + 40

-- Drawing begins few rows and takes few calls, so a cleared grid counts few.
abbrev pub AppsTakeFewCalls : Type 0
AppsTakeFewCalls =
    (shown : ViewState) (a : AppView) (w h s : ℕ) → IsPlain a shown w h
    → IsFew h (app_counts a (sight w h s) (pos 0)) × IsFew h (added no_counts (app_counts a (sight w h s) (pos 0)))
