-- The changed line that a row of a frame shows, if nothing lies over it.
use Rattle.std.specs.Prelude.{ℕ, ◌-◌, ◌==◌, if◌then◌else◌, Option, Some, None, option_and_then}
use Rattle.scm_types.specs.declared.keys.SectionKey.{SectionKey}
use Rattle.scm_types.specs.declared.keys.LineKey.{LineKey}
use Rattle.scm_types.specs.Keys.{line_key_of}
use Rattle.scm_rows.specs.declared.row_kind.RowKind.{RowKind}
use Rattle.scm_rows.specs.declared.row_kind.RowKind.TheVariants.{Header, Line, Mark, Context, Blank}
use Rattle.scm_document.specs.SectionPieces.{kind_on}
use Rattle.scm_widgets.specs.OverlayRects.{have_row}
use Rattle.scm_layout_index.specs.declared.layout_index.LayoutIndex.{LayoutIndex}
use Rattle.scm_layout_index.specs.declared.row_owners.RowOwners.{RowOwners}
use Rattle.scm_document.specs.declared.index_pieces.RowPieces.{RowPieces}
use Rattle.scm_layout_index.specs.RowPieces.{pieces_on}

-- the changed line that a row of this kind in section k shows, if it shows one
abbrev pub line_of_kind : SectionKey → RowKind → Option LineKey
line_of_kind k Header = None
line_of_kind k (Line i) = Some (line_key_of k i)
line_of_kind k Mark = None
line_of_kind k (Context i) = None
line_of_kind k Blank = None

-- the changed line on row y of the document, which the pieces have, if any
abbrev pub line_among : ℕ → RowPieces → Option LineKey
line_among y p =
    if y == p.file.top then None else option_and_then (λ s. line_of_kind s.key (kind_on s (y - s.top))) p.section

-- the changed line that the row of r shows, if nothing lies over it
abbrev pub shown_line : RowOwners → Option LineKey
shown_line r = if r.is_covered then None else option_and_then (line_among r.row) r.found

-- the changed line that row y shows by index i, if nothing lies over it
abbrev pub line_in : LayoutIndex → ℕ → Option LineKey
line_in i y = if have_row i.rects y then None else option_and_then (line_among y) (pieces_on i.selection i.pinned y i.rows.files)
