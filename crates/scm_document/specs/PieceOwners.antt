-- The owners of the columns of a document's rows, by its pieces alone.
use Rattle.std.specs.Prelude.{ℕ, ◌-◌, ◌==◌, nat_le, ◌||◌, if◌then◌else◌, Option, Some, None}
use Rattle.scm_render.specs.Hits.{first_of_two}
use Rattle.scm_types.specs.declared.keys.SectionKey.{SectionKey}
use Rattle.scm_types.specs.declared.keys.LineKey.{LineKey}
use Rattle.scm_types.specs.declared.keys.SelectionKey.{SelectionKey}
use Rattle.scm_types.specs.declared.keys.SelectionKey.TheVariants as selection
use Rattle.scm_widgets.specs.declared.ids.ComponentId.{ComponentId}
use Rattle.scm_widgets.specs.declared.ids.ComponentId.TheVariants as ids
use Rattle.scm_document.specs.declared.index_pieces.FilePiece.{FilePiece}
use Rattle.scm_document.specs.declared.index_pieces.RowPieces.{RowPieces}
use Rattle.scm_document.specs.declared.index_pieces.SectionPiece.{SectionPiece}
use Rattle.scm_rows.specs.declared.row_kind.RowKind.{RowKind}
use Rattle.scm_rows.specs.declared.row_kind.RowKind.TheVariants.{Header, Line, Mark, Context, Blank}
use Rattle.scm_document.specs.SectionPieces.{kind_on}
use Rattle.scm_document.specs.Rows.{file_id, section_id, line_id}
use Rattle.scm_types.specs.Keys.{line_key_of}
use Rattle.scm_widgets.specs.Layers.{is_among}

-- ---- the rows of a section

-- the owner of column x of a heading on w columns: the checkbox from column c on, or the fold box in the last three columns
abbrev pub box_owner : ℕ → ℕ → SelectionKey → ℕ → Option ComponentId
box_owner w c k x =
    if is_among c 3 x then Some (ids.ToggleBox k) else if is_among (w - 3) 3 x then Some (ids.ExpandBox k) else None

-- the owner of column x of changed line k: its checkbox, or else the line
abbrev pub line_owner : LineKey → ℕ → ComponentId
line_owner k x = if is_among 4 3 x then ids.ToggleBox (selection.Line k) else line_id k

-- the part of section k that owns column x of a row of this kind on w columns, if any
unfoldable pub part_owner : ℕ → RowKind → SectionKey → ℕ → Option ComponentId
part_owner w Header k x = box_owner w 2 (selection.Section k) x
part_owner w (Line i) k x = Some (line_owner (line_key_of k i) x)
part_owner w Mark k x = if is_among 2 3 x then Some (ids.ToggleBox (selection.Section k)) else None
part_owner w (Context i) k x = Some (line_id (line_key_of k i))
part_owner w Blank k x = None

-- the owner of column x of row j of section s: a part of it, or the section itself, in columns 0 and 1 only if it is wide
abbrev pub section_owner : ℕ → SectionPiece → ℕ → ℕ → Option ComponentId
section_owner w s j x =
    first_of_two (part_owner w (kind_on s j) s.key x)
    (if s.is_wide || nat_le 2 x then Some (section_id s.key) else None)

-- ---- the rows of files

-- the owner of column x of file f's header row; none if the header is pinned elsewhere
abbrev pub header_owner : ℕ → FilePiece → ℕ → Option ComponentId
header_owner w f x =
    if f.is_pinned then None
    else first_of_two (box_owner w 0 (selection.File f.key) x) (Some (ids.FileViewHeader f.key))

-- the owner of column x of row y in the section that has the row, if there is one
abbrev pub owner_in_section : ℕ → Option SectionPiece → ℕ → ℕ → Option ComponentId
owner_in_section w None y x = None
owner_in_section w (Some s) y x = section_owner w s (y - s.top) x

-- the owner of column x of row y, which the pieces have: a part of the file's header or of the section, or else the file
abbrev pub row_owner : ℕ → RowPieces → ℕ → ℕ → Option ComponentId
row_owner w p y x =
    first_of_two (if y == p.file.top then header_owner w p.file x else owner_in_section w p.section y x) (Some (file_id p.file.key))

-- the owner of column x of row y among the pieces that have the row, if there are any
abbrev pub found_owner : ℕ → Option RowPieces → ℕ → ℕ → Option ComponentId
found_owner w None y x = None
found_owner w (Some p) y x = row_owner w p y x
