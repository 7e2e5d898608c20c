-- The index of a frame that is shown inline, by the rows of a layout: who owns each place, which rows each key has, and how many rows
-- all of it spans.
use Rattle.std.specs.Prelude.{◌≡◌, ℕ, ◌≤◌, nat_lt, if◌then◌else◌, true, Option, None}
use Rattle.scm_render.specs.Hits.{first_of_two}
use Rattle.scm_types.specs.declared.keys.SelectionKey.{SelectionKey}
use Rattle.scm_types.specs.Limits.{is_accepted_state, max_scroll}
use Rattle.scm_widgets.specs.declared.ids.ComponentId.{ComponentId}
use Rattle.scm_widgets.specs.OverlayRects.{have_row, overlay_owner}
use Rattle.scm_document.specs.declared.commit_view.CommitViewMode.TheVariants.{Inline}
use Rattle.scm_document.specs.PieceOwners.{found_owner}
use Rattle.scm_view.specs.ViewState.{ViewState}
use Rattle.scm_view.specs.Window.{extent, owner, span}
use Rattle.scm_layout.specs.declared.state_rows.StateRows.{StateRows}
use Rattle.scm_layout.specs.Layouts.{files_top}
use Rattle.scm_layout.specs.Rows.{rows_of}
use Rattle.scm_layout_index.specs.declared.layout_index.LayoutIndex.{LayoutIndex}
use Rattle.scm_layout_index.specs.declared.row_owners.RowOwners.{RowOwners}
use Rattle.scm_layout_index.specs.RowPieces.{pieces_on, rows_by_key}

-- ---- what an index is made of

-- the rows are those of the session's layout
abbrev pub AreRowsOf : StateRows → ViewState → Type 0
AreRowsOf rows shown = rows ≡ rows_of shown.expanded 0 (files_top shown.state.commits) shown.state.files

-- the session is shown inline on a screen of w columns and h rows, whose first row shows row s of the document
pub record IsInline (shown : ViewState) (w h s : ℕ) : Type 0 where
  pub accepted : is_accepted_state shown.state ≡ true
  pub view_mode : shown.view_mode ≡ Inline
  pub wide : 10 ≤ w
  pub high : 2 ≤ h
  pub width : w ≤ 65535
  pub height : h ≤ 65535
  pub scroll : s ≤ max_scroll

-- ---- what an index answers

-- the owner of row y and column x among the files and sections, if any
abbrev pub document_owner : LayoutIndex → ℕ → ℕ → Option ComponentId
document_owner i y x = found_owner i.width (pieces_on i.selection i.pinned y i.rows.files) y x

-- the owner of row y and column x by index i, if any
abbrev pub owner_in : LayoutIndex → ℕ → ℕ → Option ComponentId
owner_in i y x =
    if nat_lt x i.width then first_of_two (overlay_owner i.rects y x) (document_owner i y x) else None

-- `r` knows what its row has in index i: the file and the section, and whether anything lies over the document
pub record AreRowOwners (i : LayoutIndex) (r : RowOwners) : Type 0 where
  pub found : r.found ≡ pieces_on i.selection i.pinned r.row i.rows.files
  pub covered : r.is_covered ≡ have_row i.rects r.row

-- i is the index of what a screen of w columns and h rows shows, if its first row is row s of the document
pub record IsLayoutIndexOf (w h s : ℕ) (shown : ViewState) (i : LayoutIndex) : Type 0 where
  -- it has the width of the screen
  pub width : i.width ≡ w
  -- it says who owns each place
  pub owner : (y x : ℕ) → owner_in i y x ≡ (if nat_lt x w then owner w h s shown y x else None)
  -- it says which rows each key has
  pub span : (k : SelectionKey) → rows_by_key i.rows.files k ≡ span shown k
  -- it says how many rows all of it spans
  pub extent : i.extent ≡ extent w h s shown
