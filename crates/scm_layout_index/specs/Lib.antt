-- the pieces of files and sections by the rows of a layout
pub mod RowPieces
-- rows of a layout that several owners share
pub mod SharedRows
-- a copy of such rows, and what changed since
pub mod FrameRows
-- the changed line that a row shows
pub mod ShownLines
-- lines that rows show one below the other
pub mod LineRows
-- runs of columns that have the same owner
pub mod OwnerRuns
-- the last row over which something lies
pub mod Overlays
-- the index by a layout, and what it answers
pub mod LayoutIndex
