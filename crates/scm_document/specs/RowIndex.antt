-- The row index: what each row of a document shows, and which rows each key has.
use Rattle.std.specs.Prelude.{ℕ, zero, suc, List, [], ◌∷◌, ◌++◌, length, Option, None, slice_get, option_map}
use Rattle.scm_types.specs.declared.keys.SectionKey.{SectionKey}
use Rattle.scm_types.specs.declared.keys.SelectionKey.{SelectionKey}
use Rattle.scm_document.specs.declared.row_place.RowPlace.{RowPlace}
use Rattle.scm_document.specs.declared.row_place.RowPlace.TheVariants as part
use Rattle.scm_rows.specs.Heights.{message_height}
use Rattle.scm_document.specs.Rows.{ShownSection, ShownFile, Document}
use Rattle.scm_document.specs.Places.{Place, places}
use Rattle.scm_document.specs.DocumentRows.{rows_of_key}

-- ---- what each row shows

-- n rows of section k, the first of which is row i of the section
unfoldable pub section_parts : SectionKey → ℕ → ℕ → List RowPlace
section_parts k i zero = []
section_parts k i (suc n) = part.Section k i ∷ section_parts k (suc i) n

-- the rows of sections, from the top down
unfoldable pub sections_parts : List ShownSection → List RowPlace
sections_parts [] = []
sections_parts (p ∷ ps) = section_parts p.key 0 (length p.rows) ++ sections_parts ps

-- the rows of files, from the top down: the header of each, and the rows of its sections
unfoldable pub files_parts : List ShownFile → List RowPlace
files_parts [] = []
files_parts (f ∷ fs) = part.File f.key ∷ (sections_parts f.sections ++ files_parts fs)

-- n rows of a message, the first of which is row i of the message
unfoldable pub message_parts : ℕ → ℕ → List RowPlace
message_parts i zero = []
message_parts i (suc n) = part.Message i ∷ message_parts (suc i) n

-- the rows of document d, the first of which is row 1: row 0 is the menu bar's
abbrev pub parts_of : Document → List RowPlace
parts_of d = message_parts 0 (message_height d.message) ++ files_parts d.files

-- what a row shows, if rows ps begin on row 1; row 0 shows nothing
abbrev pub part_on : List RowPlace → ℕ → Option RowPlace
part_on ps zero = None
part_on ps (suc n) = slice_get ps n

-- ---- the index

-- what contracts say of a row index
pub record Index : Type 0 where
  -- what each row shows, from row 1 on
  pub parts : List RowPlace
  -- the rows of each key
  pub places : List Place

-- the index of document d
abbrev pub index_of : Document → Index
index_of d = record { parts = parts_of d; places = places 1 d }

-- the first row of key k, if it has rows
abbrev pub top_in : Index → SelectionKey → Option ℕ
top_in x k = option_map (λ (r : ℕ × ℕ). r.0) (rows_of_key k x.places)

-- the number of rows of key k, if it has rows
abbrev pub rows_in : Index → SelectionKey → Option ℕ
rows_in x k = option_map (λ (r : ℕ × ℕ). r.1) (rows_of_key k x.places)
