-- Places: the first row of each key, and how many rows it has. A key without rows is hidden.
use Rattle.std.specs.Prelude.{ℕ, suc, ◌+◌, List, [], ◌∷◌, ◌++◌, length}
use Rattle.scm_types.specs.declared.keys.SelectionKey.{SelectionKey}
use Rattle.scm_types.specs.declared.keys.SelectionKey.TheVariants as selection
use Rattle.scm_rows.specs.Heights.{message_height}
use Rattle.scm_document.specs.Rows.{DocRow, HeaderRow, SectionRow, LineRow, MarkRow, ContextRow, DotsRow, BlankRow, ShownSection, ShownFile, Document, file_rows}

-- the rows of a key
pub record Place : Type 0 where
  -- the key
  pub key : SelectionKey
  -- its first row
  pub top : ℕ
  -- how many rows it has
  pub rows : ℕ

-- the place of the line on row `top`, if that row shows a line
abbrev pub line_places : ℕ → DocRow → List Place
line_places top (HeaderRow key h) = []
line_places top (SectionRow selected h) = []
line_places top (LineRow key b ts) = record { key = selection.Line key; top = top; rows = 1 } ∷ []
line_places top (MarkRow selected b t) = []
line_places top (ContextRow key ts) = record { key = selection.Line key; top = top; rows = 1 } ∷ []
line_places top (DotsRow t) = []
line_places top BlankRow = []

-- the places of the lines on rows from row `top` on
unfoldable pub rows_places : ℕ → List DocRow → List Place
rows_places top [] = []
rows_places top (r ∷ rs) = line_places top r ++ rows_places (suc top) rs

-- the places of sections and their lines from row `top` on
unfoldable pub sections_places : ℕ → List ShownSection → List Place
sections_places top [] = []
sections_places top (p ∷ ps) =
    record { key = selection.Section p.key; top = top; rows = length p.rows }
    ∷ (rows_places top p.rows ++ sections_places (top + length p.rows) ps)

-- the places of files, their sections and their lines from row `top` on
unfoldable pub files_places : ℕ → List ShownFile → List Place
files_places top [] = []
files_places top (f ∷ fs) =
    record { key = selection.File f.key; top = top; rows = length (file_rows f) }
    ∷ (sections_places (suc top) f.sections ++ files_places (top + length (file_rows f)) fs)

-- the places of the keys of document d, whose first row is `top`
abbrev pub places : ℕ → Document → List Place
places top d = files_places (top + message_height d.message) d.files
