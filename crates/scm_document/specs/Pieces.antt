-- Pieces: the files of a document and their sections that have rows, each with its row range. They say what each row shows and which
-- rows each key has. Only contracts within this crate cite these definitions.
use Rattle.std.specs.Prelude.{ℕ, zero, suc, ◌+◌, ◌-◌, ◌==◌, List, [], ◌∷◌, ◌++◌, map, if◌then◌else◌, Option, Some, None}
use Rattle.scm_types.specs.declared.keys.SectionKey.{SectionKey}
use Rattle.scm_types.specs.declared.keys.SelectionKey.{SelectionKey}
use Rattle.scm_types.specs.declared.keys.SelectionKey.TheVariants as selection
use Rattle.scm_types.specs.Keys.{is_key, line_key_of}
use Rattle.scm_rows.specs.declared.row_kind.RowKind.{RowKind}
use Rattle.scm_rows.specs.Kinds.{line_of}
use Rattle.scm_document.specs.declared.row_place.RowPlace.{RowPlace}
use Rattle.scm_document.specs.declared.row_place.RowPlace.TheVariants as part
use Rattle.scm_document.specs.declared.index_pieces.FilePiece.{FilePiece}
use Rattle.scm_document.specs.declared.index_pieces.SectionPiece.{SectionPiece}
use Rattle.scm_document.specs.declared.index_pieces.RowPieces.{RowPieces}
use Rattle.scm_document.specs.declared.index_pieces.Piece.{Piece}
use Rattle.scm_document.specs.declared.index_pieces.Piece.TheVariants.{File, Section}
use Rattle.scm_document.specs.declared.file_view.FileView.{FileView}
use Rattle.scm_document.specs.Places.{Place}
use Rattle.scm_document.specs.RowIndex.{section_parts}
use Rattle.scm_document.specs.SectionPieces.{kind_on}
use Rattle.scm_widgets.specs.OverlayRects.{is_from}
use Rattle.scm_document.specs.ViewPieces.{file_height, file_piece_of, sections_in_file}

-- ---- the pieces of a document

-- the pieces of file v and its sections, if its first row is `top` and a header may be pinned to row m
abbrev pub file_pieces : ℕ → ℕ → FileView → List Piece
file_pieces m top v = File (file_piece_of m top v) ∷ map Section (sections_in_file top v)

-- the pieces of files and their sections from row `top` on
abbrev pub files_pieces : ℕ → ℕ → List FileView → List Piece
files_pieces m top [] = []
files_pieces m top (v ∷ vs) = file_pieces m top v ++ files_pieces m (top + file_height v) vs

-- ---- the pieces that have a row

-- the section that has row y, if any, of those at the front of the pieces
abbrev pub section_among : ℕ → List Piece → Option SectionPiece
section_among y [] = None
section_among y (File f ∷ ps) = None
section_among y (Section s ∷ ps) = if is_from s.top s.end y then Some s else section_among y ps

-- the section that has row y of file f, whose sections are at the front of the pieces, if the row is not the header's
abbrev pub section_below : FilePiece → ℕ → List Piece → Option SectionPiece
section_below f y ps = if y == f.top then None else section_among y ps

-- the pieces that have row y, if any
abbrev pub pieces_among : ℕ → List Piece → Option RowPieces
pieces_among y [] = None
pieces_among y (File f ∷ ps) =
    if is_from f.top f.end y then Some (record { file = f; section = section_below f y ps }) else pieces_among y ps
pieces_among y (Section s ∷ ps) = pieces_among y ps

-- ---- what the rows show

-- what the piece's own rows show: a file's header, or all rows of a section
abbrev pub piece_parts : Piece → List RowPlace
piece_parts (File f) = part.File f.key ∷ []
piece_parts (Section s) = section_parts s.key 0 (s.end - s.top)

-- ---- the lines of a section

-- the place of a line of section k on row `row`, if there is one
abbrev pub line_list : SectionKey → ℕ → Option ℕ → List Place
line_list k row None = []
line_list k row (Some i) = record { key = selection.Line (line_key_of k i); top = row; rows = 1 } ∷ []

-- the places of the lines on n rows of section k, from its row j on; the section begins on row `top`, and `kind` says what its rows show
unfoldable pub lines_places : SectionKey → ℕ → (ℕ → RowKind) → ℕ → ℕ → List Place
lines_places k top kind j zero = []
lines_places k top kind j (suc n) = line_list k (top + j) (line_of (kind j)) ++ lines_places k top kind (suc j) n

-- the places of the lines of section s
abbrev pub lines_in : SectionPiece → List Place
lines_in s = lines_places s.key s.top (kind_on s) 0 (s.end - s.top)

-- ---- the places of the keys

-- the places of section s and its lines
abbrev pub section_places : SectionPiece → List Place
section_places s = record { key = selection.Section s.key; top = s.top; rows = s.end - s.top } ∷ lines_in s

-- the places of a file, or of a section and its lines
abbrev pub piece_places : Piece → List Place
piece_places (File f) = record { key = selection.File f.key; top = f.top; rows = f.end - f.top } ∷ []
piece_places (Section s) = section_places s

-- the first row of a key's place, and how many rows it has; it may have none
abbrev pub found_in : SelectionKey → List Place → Option (ℕ × ℕ)
found_in key [] = None
found_in key (p ∷ ps) = if is_key key p.key then Some (p.top, p.rows) else found_in key ps

-- a first row and a number of rows, unless that is 0
abbrev pub some_rows : ℕ × ℕ → Option (ℕ × ℕ)
some_rows r = if r.1 == 0 then None else Some r
