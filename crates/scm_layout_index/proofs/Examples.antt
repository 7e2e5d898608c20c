-- The pieces of a small file by its rows, computed from the definitions: two lines of context, two changed lines, a mode. The file begins
-- on row 4, below a message.
use Rattle.std.proofs.Common.{◌≡◌, ℕ, Bool, true, false, [], ◌∷◌, Option, Some, None, refl}
use Rattle.scm_types.specs.declared.keys.SelectionKey.TheVariants as keys
use Rattle.scm_types.specs.Keys.{section_key_of}
use Rattle.scm_document.specs.declared.index_pieces.FilePiece.{FilePiece}
use Rattle.scm_document.specs.declared.index_pieces.SectionPiece.{SectionPiece}
use Rattle.scm_layout.specs.declared.file_rows.FileRows.{FileRows}
use Rattle.scm_rows.specs.declared.section_shape.SectionShape.{SectionShape}
use Rattle.scm_rows.specs.declared.section_shape.SectionShape.TheVariants as shapes
use Rattle.scm_rows.specs.Context.{place}
use Rattle.scm_layout.specs.Rows.{file_key_of, rows_at}
use Rattle.scm_document.specs.declared.index_pieces.RowPieces.{RowPieces}
use Rattle.scm_document.specs.HeaderRects.{header_rects, pinned_rects}
use Rattle.scm_layout_index.specs.RowPieces.{end_of_files, pieces_on, rows_by_key, section_of_key}

-- unfolded, with unfolded changes: the header, 2 lines of context, 3 rows of changes and the mode
abbrev open_rows : FileRows
open_rows = record { top = 4; end = 11; folded = 0; sections = rows_at 0 2 (shapes.Context 2) ∷ rows_at 2 3 shapes.Changed ∷ rows_at 5 1 shapes.Mark ∷ [] }

-- folded
abbrev folded_rows : FileRows
folded_rows = record open_rows { end = 5 }

abbrev section : ℕ → ℕ → ℕ → Bool → SectionShape → SectionPiece
section i top end wide shape = record { key = section_key_of (file_key_of 0 0) i; top = top; end = end; is_wide = wide; place = place 3 i; shape = shape }

abbrev file : Bool → FilePiece
file pinned = record { key = file_key_of 0 0; top = 4; end = 11; is_pinned = pinned }

abbrev found : FilePiece → Option SectionPiece → Option RowPieces
found f s = Some (record { file = f; section = s })

-- above the file there is nothing; on row 4 is its header, on row 6 the second line of context, on row 7 the header of the changes, on
-- row 10 the mode
on-row-3 : pieces_on keys.None 1 3 (open_rows ∷ []) ≡ None
on-row-3 = refl

on-row-4 : pieces_on keys.None 1 4 (open_rows ∷ []) ≡ found (file false) None
on-row-4 = refl

on-row-6 : pieces_on keys.None 1 6 (open_rows ∷ []) ≡ found (file false) (Some (section 0 5 7 true (shapes.Context 2)))
on-row-6 = refl

on-row-7 : pieces_on keys.None 1 7 (open_rows ∷ []) ≡ found (file false) (Some (section 1 7 10 true shapes.Changed))
on-row-7 = refl

-- a mode is wide if it is selected
on-row-10 : pieces_on keys.None 1 10 (open_rows ∷ []) ≡ found (file false) (Some (section 2 10 11 false shapes.Mark))
on-row-10 = refl

selected-row-10 : pieces_on (keys.Section (section_key_of (file_key_of 0 0) 2)) 1 10 (open_rows ∷ []) ≡ found (file false) (Some (section 2 10 11 true shapes.Mark))
selected-row-10 = refl

-- the header is pinned to row 8, not to its own row
pinned-to-8 : pinned_rects 20 8 (pieces_on keys.None 8 8 (open_rows ∷ [])) ≡ header_rects 20 8 (file_key_of 0 0)
pinned-to-8 = refl

pinned-to-4 : pinned_rects 20 4 (pieces_on keys.None 4 4 (open_rows ∷ [])) ≡ []
pinned-to-4 = refl

-- a section of a folded file has no piece, nor has a file of another commit rows
of-changes : section_of_key (open_rows ∷ []) (section_key_of (file_key_of 0 0) 1) ≡ Some (section 1 7 10 true shapes.Changed)
of-changes = refl

of-folded : section_of_key (folded_rows ∷ []) (section_key_of (file_key_of 0 0) 1) ≡ None
of-folded = refl

of-file : rows_by_key (open_rows ∷ []) (keys.File (file_key_of 0 0)) ≡ Some (4, 7)
of-file = refl

of-other : rows_by_key (open_rows ∷ []) (keys.File (file_key_of 1 0)) ≡ None
of-other = refl

below-them : end_of_files 4 (open_rows ∷ []) ≡ 11
below-them = refl
