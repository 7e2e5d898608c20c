-- The texts of the document's rows.
pub mod Texts
-- The rows of the document: what each row of a section, of a file and of a commit shows.
pub mod Rows
-- The picture of each row of a document, and of its parts, row by row.
pub mod Pictures
-- The draw calls of the document's parts: pictures with their counts.
pub mod DocumentCalls
-- The titles of headings.
pub mod Titles
-- The document row by row: what each row shows, and who owns its columns.
pub mod Strips
-- The rows of each key of the document.
pub mod Places
-- The rows of files.
pub mod FilesRows
-- The places at which a session is drawn.
pub mod ScrollBounds
-- A sight within the bounds in which a component alone can be drawn.
pub mod DrawBounds
-- The ids of a document's rows.
pub mod Owners
-- A sight that shows a number of columns from column 0 on, all inside the mask.
pub mod OpenSights
-- The columns in which the documents of the commits are drawn: one document, or two side by side.
pub mod ViewColumns
-- The row index: what each row of a document shows, and which rows each key has.
pub mod RowIndex
-- Pieces: files and their sections with their row ranges.
pub mod Pieces
-- The counts of drawing each part of a document.
pub mod Counts
-- The layers of a document on a screen, and the row range of each key.
pub mod DocumentRows
-- The owners of the columns of a document's rows, by its pieces alone.
pub mod PieceOwners
-- The sections of a file that have rows.
pub mod SectionWalk
-- The pieces of files and sections, from their rows.
pub mod SectionPieces
-- The pieces of files and sections, from the views that show them.
pub mod ViewPieces
-- The overlay rectangles of a message's button and of the headers of files.
pub mod HeaderRects
-- Texts that are cut behind the last column in sight.
pub mod Visible
