-- The pieces of files and sections, from the rows that a layout keeps of them. Indexes count from 0; all keys are those of commit 0.
use Rattle.std.specs.Prelude.{◌≡◌, ℕ, ◌+◌, ◌-◌, ◌<◌, ◌≤◌, ◌^◌, ◌==◌, ◌&&◌, nat_le, nat_lt, List, [], ◌∷◌, length, slice_get, if◌then◌else◌, Option, Some, None, option_and_then}
use Rattle.scm_types.specs.declared.keys.FileKey.{FileKey}
use Rattle.scm_types.specs.declared.keys.SectionKey.{SectionKey}
use Rattle.scm_types.specs.declared.keys.SelectionKey.{SelectionKey}
use Rattle.scm_types.specs.declared.keys.SelectionKey.TheVariants as keys
use Rattle.scm_types.specs.Keys.{is_key, section_key_of, section_of_line}
use Rattle.scm_document.specs.declared.index_pieces.FilePiece.{FilePiece}
use Rattle.scm_document.specs.declared.index_pieces.SectionPiece.{SectionPiece}
use Rattle.scm_document.specs.declared.index_pieces.RowPieces.{RowPieces}
use Rattle.scm_document.specs.DocumentRows.{rows_of_key}
use Rattle.scm_document.specs.Pieces.{section_places, some_rows}
use Rattle.scm_layout.specs.declared.file_rows.FileRows.{FileRows}
use Rattle.scm_layout.specs.declared.section_rows.SectionRows.{SectionRows}
use Rattle.scm_layout.specs.Rows.{file_key_of}
use Rattle.scm_layout.specs.Searches.{FilesFollow, SectionsFollow, file_on, section_on}
use Rattle.scm_document.specs.SectionPieces.{file_piece, section_piece}

-- ---- the piece of a section

-- the piece of section k of `total`, whose rows r are counted from row `first`
abbrev pub section_of_rows : SelectionKey → ℕ → SectionKey → ℕ → SectionRows → SectionPiece
section_of_rows selection total k first r = section_piece (is_key (keys.Section k) selection) total k (first + r.top) (first + r.end) r.shape

-- ---- the pieces that have a row

-- the piece of section j of file i with rows r, if there is one
abbrev pub piece_at : SelectionKey → ℕ → FileRows → ℕ → Option SectionPiece
piece_at selection i r j =
    option_and_then (λ s. Some (section_of_rows selection (length r.sections) (section_key_of (file_key_of 0 i) j) (r.top + 1) s)) (slice_get r.sections j)

-- the piece of the section of file i with rows r that has row y of the document, if there is one
abbrev pub section_in : SelectionKey → ℕ → FileRows → ℕ → Option SectionPiece
section_in selection i r y =
    if nat_le y r.top then None else option_and_then (piece_at selection i r) (section_on (y - (r.top + 1)) r.sections)

-- the piece of file i with rows r, if a header may be pinned to row m
abbrev pub file_of_rows : ℕ → ℕ → FileRows → FilePiece
file_of_rows m i r = file_piece m (file_key_of 0 i) r.top r.end

-- the pieces that have row y, if any
abbrev pub pieces_on : SelectionKey → ℕ → ℕ → List FileRows → Option RowPieces
pieces_on selection m y rs =
    option_and_then
    (λ i. option_and_then (λ r. Some (record { file = file_of_rows m i r; section = section_in selection i r y })) (slice_get rs i))
    (file_on y rs)

-- ---- the rows of a key

-- the piece of section k, if the section has rows, and its file with rows r has some below its header
abbrev pub section_at : FileRows → SectionKey → Option SectionPiece
section_at r k =
    option_and_then
    (λ s. if nat_lt (r.top + 1) r.end && nat_lt s.top s.end then Some (section_of_rows keys.None (length r.sections) k (r.top + 1) s) else None)
    (slice_get r.sections k.section_idx)

-- the piece of section k of files with these rows, if its file is unfolded
abbrev pub section_of_key : List FileRows → SectionKey → Option SectionPiece
section_of_key rs k =
    if k.commit_idx == 0 then option_and_then (λ r. section_at r k) (slice_get rs k.file_idx) else None

-- the first row of file k and its number of rows, if there is such a file
abbrev pub rows_of_file : List FileRows → FileKey → Option (ℕ × ℕ)
rows_of_file rs k =
    if k.commit_idx == 0 then option_and_then (λ r. some_rows (r.top, r.end - r.top)) (slice_get rs k.file_idx) else None

-- the first row of a key and its number of rows, if it has any, in the section if there is one
abbrev pub rows_in_section : SelectionKey → Option SectionPiece → Option (ℕ × ℕ)
rows_in_section key section = option_and_then (λ s. rows_of_key key (section_places s)) section

-- the first row of a key and its number of rows, if it has any, in files with these rows
abbrev pub rows_by_key : List FileRows → SelectionKey → Option (ℕ × ℕ)
rows_by_key rs keys.None = None
rows_by_key rs (keys.File k) = rows_of_file rs k
rows_by_key rs (keys.Section k) = rows_in_section (keys.Section k) (section_of_key rs k)
rows_by_key rs (keys.Line k) = rows_in_section (keys.Line k) (section_of_key rs (section_of_line k))

-- ---- the end of the files

-- the row below the files, or `top` if there are none
abbrev pub end_of_files : ℕ → List FileRows → ℕ
end_of_files top [] = top
end_of_files top (r ∷ rs) = end_of_files r.end rs

-- ---- what a search asks of the rows

-- the rows of the sections of a file follow one another, and are near enough to be counted
pub record SectionsFit (r : FileRows) : Type 0 where
  pub follow : SectionsFollow r.sections
  pub tops : (j : ℕ) (s : SectionRows) → slice_get r.sections j ≡ Some s → s.top ≤ s.end
  pub ends : (j : ℕ) (s : SectionRows) → slice_get r.sections j ≡ Some s → r.top + 1 + s.end < 2 ^ 63

-- the rows of the files follow one another, and so do those of their sections
pub record RowsFit (rs : List FileRows) : Type 0 where
  pub follow : FilesFollow rs
  pub sections : (i : ℕ) (r : FileRows) → slice_get rs i ≡ Some r → SectionsFit r
