-- The counts of drawing each part of a document. They count only on rows that the screen shows.
use Rattle.std.specs.Prelude.{ℕ, ◌==◌, ℤ, pos, ◌+ℤ◌, List, [], ◌∷◌, length, if◌then◌else◌, Option, Some, None}
use Rattle.scm_cells.specs.Counts.{Counts, no_counts, plus}
use Rattle.scm_cells.specs.declared.rect.Rect.{Rect}
use Rattle.scm_render.specs.Canvas.{Sight}
use Rattle.scm_document.specs.declared.section_line_view.SectionLineViewInner.{SectionLineViewInner}
use Rattle.scm_document.specs.declared.section_line_view.SectionLineViewInner.TheVariants as inner
use Rattle.scm_rows.specs.Heights.{message_height}
use Rattle.scm_document.specs.Rows.{DocRow, HeaderRow, SectionRow, LineRow, MarkRow, ContextRow, DotsRow, BlankRow, ShownSection, ShownFile, Document, file_rows}
use Rattle.scm_document.specs.Pictures.{mask_row, is_pinned, no_files_place}
use Rattle.scm_widgets.specs.Counts.{drawn, on_row}

-- ---- rows

-- the draw calls of a row: two boxes, a blank and a title for a heading; a box and a text; a text; or a blank
abbrev pub row_calls : DocRow → ℕ
row_calls (HeaderRow key h) = 4
row_calls (SectionRow selected h) = 4
row_calls (LineRow key b ts) = 2
row_calls (MarkRow selected b t) = 2
row_calls (ContextRow key ts) = 1
row_calls (DotsRow t) = 1
row_calls BlankRow = 1

-- the counts of row r on row y
abbrev pub row_counts : DocRow → Rect → ℤ → Counts
row_counts r v y = on_row v y (drawn 1 (row_calls r))

-- the counts of rows from row y on
unfoldable pub rows_counts : List DocRow → Rect → ℤ → Counts
rows_counts [] v y = no_counts
rows_counts (r ∷ rs) v y = plus (row_counts r v y) (rows_counts rs v (y +ℤ pos 1))

-- the counts of a file's header on row y
abbrev pub header_counts : Rect → ℤ → Counts
header_counts v y = on_row v y (drawn 1 4)

-- the draw calls of a line: its text, and its checkbox if it is changed
abbrev pub line_calls : SectionLineViewInner → ℕ
line_calls (inner.Unchanged line number) = 1
line_calls (inner.Changed box change line) = 2

-- the counts of a line on row y
abbrev pub line_counts : SectionLineViewInner → Rect → ℤ → Counts
line_counts i v y = on_row v y (drawn 1 (line_calls i))

-- ---- files

-- the counts of sections from row y on
unfoldable pub sections_counts : List ShownSection → Rect → ℤ → Counts
sections_counts [] v y = no_counts
sections_counts (p ∷ ps) v y = plus (rows_counts p.rows v y) (sections_counts ps v (y +ℤ pos (length p.rows)))

-- the counts of file f: its header on row y, and its sections below
unfoldable pub file_counts : ShownFile → Rect → ℤ → Counts
file_counts f v y = plus (header_counts v y) (sections_counts f.sections v (y +ℤ pos 1))

-- the counts of file f's sticky header on `row`, if it has one there; the file begins on row y
unfoldable pub pinned_counts : ShownFile → Rect → ℤ → ℤ → Counts
pinned_counts f v row y = if is_pinned row y (length (file_rows f)) then header_counts v row else no_counts

-- the counts of files from row y on, with the sticky header on `row`
unfoldable pub files_counts : List ShownFile → Rect → ℤ → ℤ → Counts
files_counts [] v row y = no_counts
files_counts (f ∷ fs) v row y =
    plus (plus (file_counts f v y) (pinned_counts f v row y)) (files_counts fs v row (y +ℤ pos (length (file_rows f))))

-- ---- commits

-- the counts of a message: a blank row; the button, the bullet and the text; and a blank row
unfoldable pub message_counts : Option (List ℕ) → Rect → ℤ → Counts
message_counts None v y = no_counts
message_counts (Some message) v y =
    plus (on_row v y (drawn 1 1)) (plus (on_row v (y +ℤ pos 1) (drawn 1 3)) (on_row v (y +ℤ pos 2) (drawn 1 1)))

-- the counts of the empty-state text
abbrev pub no_files_counts : Sight → ℤ → Counts
no_files_counts s y = on_row s.rect (y +ℤ (no_files_place s).y) (drawn 1 1)

-- the counts of files from row `below` on, or of the empty-state text if there are no files
abbrev pub body_counts : List ShownFile → Sight → ℤ → ℤ → Counts
body_counts fs s y below = if length fs == 0 then no_files_counts s y else files_counts fs s.rect (mask_row s) below

-- the counts of document d: its message, and its files below
unfoldable pub document_counts : Document → Sight → ℤ → Counts
document_counts d s y = plus (message_counts d.message s.rect y) (body_counts d.files s y (y +ℤ pos (message_height d.message)))
