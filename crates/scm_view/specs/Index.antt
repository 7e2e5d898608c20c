-- The index of a frame that is shown inline: plain data that says who owns each point, which rows each key has, and how many rows
-- all of it spans.
use Rattle.std.specs.Prelude.{◌≡◌, ℕ, nat_lt, if◌then◌else◌, Option, None}
use Rattle.std.specs.List.{flat_map}
use Rattle.scm_render.specs.Hits.{first_of_two}
use Rattle.scm_types.specs.declared.keys.SelectionKey.{SelectionKey}
use Rattle.scm_widgets.specs.declared.ids.ComponentId.{ComponentId}
use Rattle.scm_view.specs.declared.frame_index.FrameIndex.{FrameIndex}
use Rattle.scm_view.specs.ViewState.{ViewState}
use Rattle.scm_view.specs.Window.{owner, span, extent}
use Rattle.scm_document.specs.DocumentRows.{rows_of_key}
use Rattle.scm_document.specs.Pieces.{piece_places, pieces_among}
use Rattle.scm_widgets.specs.OverlayRects.{overlay_owner}
use Rattle.scm_document.specs.PieceOwners.{found_owner}

-- the owner of row y and column x by index i, if any
abbrev pub owner_in : FrameIndex → ℕ → ℕ → Option ComponentId
owner_in i y x =
    if nat_lt x i.width
    then first_of_two (overlay_owner i.rects.items y x) (found_owner i.width (pieces_among y i.pieces.items) y x)
    else None

-- i is the index of what a screen of w columns and h rows shows, if its first row is row s of the document
pub record IsIndexOf (w h s : ℕ) (shown : ViewState) (i : FrameIndex) : Type 0 where
  -- it says who owns each point
  pub owner : (y x : ℕ) → owner_in i y x ≡ (if nat_lt x w then owner w h s shown y x else None)
  -- it says which rows each key has
  pub span : (k : SelectionKey) → rows_of_key k (flat_map piece_places i.pieces.items) ≡ span shown k
  -- it says how many rows all of it spans
  pub extent : i.extent ≡ extent w h s shown
