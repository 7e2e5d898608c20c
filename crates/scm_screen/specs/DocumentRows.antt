-- What each row of a document shows. Row 0 is the menu bar's, so the document begins on row 1.
use Rattle.std.specs.Prelude.{ℕ, zero, suc, ◌+◌, ◌-◌, ◌*◌, ◌≤◌, ◌==◌, false, List, [], ◌∷◌, ◌++◌, length, map, cond, if◌then◌else◌, Option, Some, None, option_map, slice_get}
use Rattle.scm_cells.specs.Counts.{Counts}
use Rattle.scm_render.specs.Canvas.{Row}
use Rattle.scm_rows.specs.Heights.{message_height}
use Rattle.scm_document.specs.FilesRows.{files_rows}
use Rattle.scm_document.specs.Rows.{DocRow, HeaderRow, ShownFile, Document, file_rows, sections_rows, shown_sections}
use Rattle.scm_document.specs.Strips.{is_over, no_files_gap}
use Rattle.scm_strips.specs.declared.area.Area.{Area}
use Rattle.scm_strips.specs.Shows.{AreaRow, FileRow, MessageRow, MarginRow, WordsRow, shows}
use Rattle.scm_types.specs.declared.file.File.{File}
use Rattle.scm_types.specs.declared.keys.FileKey.{FileKey}
use Rattle.scm_view.specs.ViewState.{ViewState, section_views_of, totals_of}

-- ---- rows

-- the rows of a message of commit k: a blank row, the row of the edit button, and a blank row; none if there is no message
abbrev pub message_rows : ℕ → Option (List ℕ) → List AreaRow
message_rows k None = []
message_rows k (Some message) = MarginRow ∷ (MessageRow k message ∷ (MarginRow ∷ []))

-- the rows of document d, from the top down: those of its message, and those of its files
abbrev pub document_rows : Document → List AreaRow
document_rows d = message_rows d.commit d.message ++ map FileRow (files_rows d.files)

-- row z of these rows, if there is one; the first of them is row 1
abbrev pub row_in : List AreaRow → ℕ → Option AreaRow
row_in ds zero = None
row_in ds (suc z) = slice_get ds z

-- what row z of document d shows, if the document has such a row
abbrev pub row_shown : Document → ℕ → Option AreaRow
row_shown d z = row_in (document_rows d) z

-- the rows of the sections of file f with key k, from the row below its header on, if it is unfolded
abbrev pub rows_of_sections : ViewState → FileKey → File → List DocRow
rows_of_sections s k f = sections_rows (shown_sections false (section_views_of s (totals_of f.sections) k 0 0 0 f.sections))

-- ---- what lies over them

-- the first of these files that begins above row m and ends below it, if there is one; the files begin on row `top`
unfoldable pub file_over : ℕ → ℕ → List ShownFile → Option ShownFile
file_over m top [] = None
file_over m top (f ∷ fs) = cond (is_over m top f) (Some f) (file_over m (top + length (file_rows f)) fs)

-- the header of file f
abbrev pub header_of : ShownFile → AreaRow
header_of f = FileRow (HeaderRow f.key f.heading)

-- the first row of the files of document d
abbrev pub first_file_row : Document → ℕ
first_file_row d = 1 + message_height d.message

-- the header that is pinned on row m of document d, if one is
abbrev pub pinned_on : Document → ℕ → Option AreaRow
pinned_on d m = option_map header_of (file_over m (first_file_row d) d.files)

-- the row of the empty-state text on a screen of h rows
abbrev pub words_row : ℕ → ℕ
words_row h = 1 + no_files_gap (h - 1)

-- what lies over row z of document d, on a screen of h rows whose first row shows row s: the empty-state text if there are no files, else the
-- pinned header
abbrev pub row_over : ℕ → ℕ → Document → ℕ → Option AreaRow
row_over h s d z =
    cond (length d.files == 0)
    (if z == words_row h then Some WordsRow else None)
    (if z == s + 1 then pinned_on d (s + 1) else None)

-- ---- painting

-- a row of the screen, with row d in area a over it, if there is one
abbrev pub with_shown : Area → Option AreaRow → Row → Row
with_shown a None row = row
with_shown a (Some d) row = shows a d row

-- a row of the screen, with row z of document d over it
abbrev pub with_document : Area → ℕ → ℕ → Document → ℕ → Row → Row
with_document a h s d z row = with_shown a (row_over h s d z) (with_shown a (row_shown d z) row)

-- rows of the screen after each was painted; the first of them shows row z of the document
unfoldable pub each_row : (ℕ → Row → Row) → ℕ → List Row → List Row
each_row paint z [] = []
each_row paint z (row ∷ rows) = paint z row ∷ each_row paint (suc z) rows

-- the rows of a screen, the first of which shows row s of document d, with the document over them
unfoldable pub painted_rows : Area → ℕ → Document → List Row → List Row
painted_rows a s d rows = each_row (with_document a (length rows) s d) s rows

-- the counts after at most `rows` rows were painted, each with at most four draw calls
pub record AreFew (rows : ℕ) (before after : Counts) : Type 0 where
  pub begun : after.rows ≤ before.rows + rows
  pub calls : after.calls ≤ before.calls + 4 * rows
