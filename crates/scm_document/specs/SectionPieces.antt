-- The pieces of sections and files, from their rows.
use Rattle.std.specs.Prelude.{ℕ, ◌-◌, ◌==◌, nat_lt, Bool, not, ◌&&◌, ◌||◌}
use Rattle.scm_types.specs.declared.keys.FileKey.{FileKey}
use Rattle.scm_types.specs.declared.keys.SectionKey.{SectionKey}
use Rattle.scm_rows.specs.declared.section_place.SectionPlace.{SectionPlace}
use Rattle.scm_rows.specs.declared.section_shape.SectionShape.{SectionShape}
use Rattle.scm_rows.specs.declared.section_shape.SectionShape.TheVariants as shapes
use Rattle.scm_rows.specs.declared.row_kind.RowKind.{RowKind}
use Rattle.scm_rows.specs.Context.{dots_height, place}
use Rattle.scm_rows.specs.Kinds.{row_kind}
use Rattle.scm_document.specs.declared.index_pieces.FilePiece.{FilePiece}
use Rattle.scm_document.specs.declared.index_pieces.SectionPiece.{SectionPiece}

-- whether the section at p owns columns 0 and 1 of its n rows
abbrev pub is_wide_section : Bool → SectionPlace → ℕ → SectionShape → Bool
is_wide_section is_selected p n (shapes.Context lines) = not (lines == 0) && nat_lt (dots_height p lines) n
is_wide_section is_selected p n shapes.Changed = is_selected || nat_lt 1 n
is_wide_section is_selected p n shapes.Mark = is_selected

-- the piece of section k of `total`, which has the rows top..end
abbrev pub section_piece : Bool → ℕ → SectionKey → ℕ → ℕ → SectionShape → SectionPiece
section_piece is_selected total k top end shape = record {
  key = k;
  top = top;
  end = end;
  is_wide = is_wide_section is_selected (place total k.section_idx) (end - top) shape;
  place = place total k.section_idx;
  shape = shape;
}

-- what row j of section s shows
abbrev pub kind_on : SectionPiece → ℕ → RowKind
kind_on s j = row_kind s.place s.shape j

-- the piece of file k, which has the rows top..end, if a header may be pinned to row m
abbrev pub file_piece : ℕ → FileKey → ℕ → ℕ → FilePiece
file_piece m k top end = record { key = k; top = top; end = end; is_pinned = nat_lt top m && nat_lt m end }
