-- The changed lines that rows of a frame show one below the other.
use Rattle.std.specs.Prelude.{ℕ, ◌+◌, min, Option, Some, None}
use Rattle.scm_types.specs.declared.keys.LineKey.{LineKey}
use Rattle.scm_document.specs.declared.index_pieces.SectionPiece.{SectionPiece}
use Rattle.scm_document.specs.declared.index_pieces.RowPieces.{RowPieces}

-- the n-th line below line k of its section
abbrev pub line_below : LineKey → ℕ → LineKey
line_below k n = record k { line_idx = k.line_idx + n }

-- the end of the rows of a section, if there is one, in a file whose rows end on row e
abbrev pub end_within : Option SectionPiece → ℕ → ℕ
end_within None e = 0
end_within (Some s) e = min s.end e

-- the end of the rows of the section among pieces, or 0 if they have none
abbrev pub end_of_section : RowPieces → ℕ
end_of_section p = end_within p.section p.file.end

-- that of the pieces of a row
abbrev pub end_of_pieces : Option RowPieces → ℕ
end_of_pieces None = 0
end_of_pieces (Some p) = end_of_section p
