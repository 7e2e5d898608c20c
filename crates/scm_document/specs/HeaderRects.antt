-- The overlay rectangles of a message's button and of the headers of files.
use Rattle.std.specs.Prelude.{ℕ, ◌-◌, List, [], ◌∷◌, if◌then◌else◌, Bool, true, false, Option, Some, None}
use Rattle.scm_types.specs.declared.keys.FileKey.{FileKey}
use Rattle.scm_types.specs.declared.keys.SelectionKey.TheVariants as selection
use Rattle.scm_widgets.specs.declared.ids.ComponentId.TheVariants as ids
use Rattle.scm_widgets.specs.declared.overlay_rects.OverlayRect.{OverlayRect}
use Rattle.scm_document.specs.declared.index_pieces.RowPieces.{RowPieces}
use Rattle.scm_widgets.specs.OverlayRects.{row_overlay_rect}

-- The button of the commit's message, if there is a message.
abbrev pub message_rects : ℕ → Bool → List OverlayRect
message_rects commit true = row_overlay_rect (ids.CommitEditMessageButton commit) 2 0 14 ∷ []
message_rects commit false = []

-- The header of a file on row `m`, its expand box and its checkbox.
abbrev pub header_rects : ℕ → ℕ → FileKey → List OverlayRect
header_rects w m k =
    row_overlay_rect (ids.FileViewHeader k) m 0 w
    ∷ (row_overlay_rect (ids.ExpandBox (selection.File k)) m (w - 3) 3
    ∷ (row_overlay_rect (ids.ToggleBox (selection.File k)) m 0 3
    ∷ []))

-- The header that is pinned to row `m`, if there is one, by the pieces that have the row.
abbrev pub pinned_rects : ℕ → ℕ → Option RowPieces → List OverlayRect
pinned_rects w m None = []
pinned_rects w m (Some p) = if p.file.is_pinned then header_rects w m p.file.key else []
