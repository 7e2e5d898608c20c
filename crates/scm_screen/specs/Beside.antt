-- The window of a session that shows one commit, or two beside each other, on a screen of w columns and h rows whose first row shows row s of
-- the documents: its rows, the owner of each place, the rows of each key, and the extent. By rows and columns alone: no masks, no components.
use Rattle.std.specs.Prelude.{ℕ, ◌+◌, ◌-◌, ◌==◌, min, Bool, ◌&&◌, List, [], ◌∷◌, ◌++◌, length, if◌then◌else◌, Option}
use Rattle.std.specs.Option.{is_none}
use Rattle.std.specs.List.{flat_map}
use Rattle.scm_types.specs.declared.keys.SelectionKey.{SelectionKey}
use Rattle.scm_render.specs.Canvas.{Row}
use Rattle.scm_widgets.specs.declared.ids.ComponentId.{ComponentId}
use Rattle.scm_widgets.specs.Layers.{Layer, owned_by, rows_around}
use Rattle.scm_document.specs.declared.commit_view.CommitViewMode.{CommitViewMode}
use Rattle.scm_document.specs.declared.commit_view.CommitViewMode.TheVariants.{Inline, Adjacent}
use Rattle.scm_document.specs.DocumentRows.{rows_of_key}
use Rattle.scm_document.specs.Places.{places}
use Rattle.scm_document.specs.Rows.{Document, document_of}
use Rattle.scm_document.specs.ViewColumns.{view_width}
use Rattle.scm_overlay.specs.Menus.{menu_layer}
use Rattle.scm_overlay.specs.Overlays.{quit_layers, help_layers, overlays}
use Rattle.scm_overlay.specs.Tables.{menus_with}
use Rattle.scm_strips.specs.declared.area.Area.{Area}
use Rattle.scm_strips.specs.AreaStrips.{area_document, area_layers}
use Rattle.scm_strips.specs.Shows.{whole}
use Rattle.scm_view.specs.ViewState.{ViewState, commit_view_of}
use Rattle.scm_view.specs.Window.{rows_from}

-- ---- where documents stand

-- a document with the area in which it is shown
pub record Placed : Type 0 where
  pub area : Area
  pub document : Document

-- the document of commit k
abbrev pub document_at : ViewState → ℕ → Document
document_at shown k = document_of (commit_view_of shown k)

-- whether document d has neither files nor a message, so that it draws the empty-state text alone
abbrev pub is_bare : Document → Bool
is_bare d = (length d.files == 0) && is_none d.message

-- how many of its v columns document d draws: all of them, but no more than the empty-state text has if it draws that alone
abbrev pub drawn_width : ℕ → Document → ℕ
drawn_width v d = if is_bare d then min v 29 else v

-- the area of the second document on w columns, of which the first one, d, has v: one column is free before it
abbrev pub second_area : ℕ → ℕ → Document → Area
second_area w v d = let left = min w (drawn_width v d + 1) in record { left = left; width = min v (w - left) }

-- the documents of these modes, from the left
abbrev pub documents_in : CommitViewMode → ℕ → ViewState → List Placed
documents_in Inline w shown = record { area = whole w; document = document_at shown 0 } ∷ []
documents_in Adjacent w shown =
    let v = view_width Adjacent w in
    record { area = whole v; document = document_at shown 0 }
    ∷ (record { area = second_area w v (document_at shown 0); document = document_at shown 1 } ∷ [])

-- the documents that are shown, from the left
abbrev pub placed_documents : ℕ → ViewState → List Placed
placed_documents w shown = documents_in shown.view_mode w shown

-- ---- the window

-- the layers of documents, one over the other from the left; each has its own pinned header on the first row below the menu bar
unfoldable pub documents_layers : ℕ → ℕ → List Placed → List (Layer ComponentId)
documents_layers h s [] = []
documents_layers h s (p ∷ ps) = area_layers p.area h s p.document ++ documents_layers h s ps

-- all layers: the documents, and over them the menu bar with its open menu, the quit dialog and the help dialog
abbrev pub layers_beside : ℕ → ℕ → ℕ → ViewState → List (Layer ComponentId)
layers_beside w h s shown =
    documents_layers h s (placed_documents w shown) ++ overlays w h s shown.open_menu shown.quit_dialog shown.is_help_open

-- the rows of the screen
unfoldable pub window_beside : ℕ → ℕ → ℕ → ViewState → List Row
window_beside w h s shown = rows_from w (layers_beside w h s shown) s h

-- the owner of column x on row y of the documents, if any: what lies over all, else a part of the second document, else of the first
unfoldable pub owner_beside : ℕ → ℕ → ℕ → ViewState → ℕ → ℕ → Option ComponentId
owner_beside w h s shown y x = owned_by (layers_beside w h s shown) y x

-- ---- keys and the extent

-- the first row of a key and its number of rows, in the document of its commit, if that is shown and shows the key
unfoldable pub span_beside : ℕ → ViewState → SelectionKey → Option (ℕ × ℕ)
span_beside w shown k = rows_of_key k (flat_map (λ (p : Placed). places 1 p.document) (placed_documents w shown))

-- the layers of the rows of documents, without their pinned headers
unfoldable pub rows_beside : ℕ → ℕ → List Placed → List (Layer ComponentId)
rows_beside h s [] = []
rows_beside h s (p ∷ ps) = area_document p.area (h - 1) (s + 1) 1 p.document ++ rows_beside h s ps

-- the size of the least row range that holds the menu bar with its open menu, the documents, and the open dialogs
unfoldable pub extent_beside : ℕ → ℕ → ℕ → ViewState → ℕ
extent_beside w h s shown =
    rows_around (menu_layer w s (menus_with shown.open_menu))
    (rows_beside h s (placed_documents w shown) ++ (quit_layers w h s shown.quit_dialog ++ help_layers w h s shown.is_help_open))
