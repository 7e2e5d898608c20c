-- The pieces of files and sections, from the views that show them.
use Rattle.std.specs.Prelude.{ℕ, ◌+◌, List, [], ◌∷◌, false, if◌then◌else◌}
use Rattle.scm_document.specs.declared.section_view.SectionView.{SectionView}
use Rattle.scm_document.specs.declared.file_view.FileView.{FileView}
use Rattle.scm_document.specs.declared.index_pieces.FilePiece.{FilePiece}
use Rattle.scm_document.specs.declared.index_pieces.SectionPiece.{SectionPiece}
use Rattle.scm_rows.specs.Heights.{shape_of}
use Rattle.scm_document.specs.Rows.{is_selected, section_height}
use Rattle.scm_document.specs.SectionPieces.{file_piece, section_piece}
use Rattle.scm_document.specs.SectionWalk.{visible_views}
use Rattle.scm_widgets.specs.Boxes.{is_fold_open}

-- the piece of section v, if its first row is `top`
abbrev pub section_piece_of : SectionView → ℕ → SectionPiece
section_piece_of v top =
    section_piece (is_selected v) v.total_num_sections v.section_key top (top + section_height v v.section.now) (shape_of v.section.now)

-- how many rows sections have
abbrev pub sections_height : List SectionView → ℕ
sections_height [] = 0
sections_height (v ∷ vs) = section_height v v.section.now + sections_height vs

-- the pieces of sections from row `top` on
abbrev pub section_piece_list : ℕ → List SectionView → List SectionPiece
section_piece_list top [] = []
section_piece_list top (v ∷ vs) = section_piece_of v top ∷ section_piece_list (top + section_height v v.section.now) vs

-- how many rows file v has
abbrev pub file_height : FileView → ℕ
file_height v = 1 + (if is_fold_open v.expand_box then sections_height (visible_views false v.section_views) else 0)

-- the pieces of the sections of file v, if its first row is `top`
abbrev pub sections_in_file : ℕ → FileView → List SectionPiece
sections_in_file top v = if is_fold_open v.expand_box then section_piece_list (top + 1) (visible_views false v.section_views) else []

-- the piece of file v, if its first row is `top` and a header may be pinned to row m
abbrev pub file_piece_of : ℕ → ℕ → FileView → FilePiece
file_piece_of m top v = file_piece m v.file_key top (top + file_height v)

-- how many rows files have
abbrev pub files_height : List FileView → ℕ
files_height [] = 0
files_height (v ∷ vs) = file_height v + files_height vs
