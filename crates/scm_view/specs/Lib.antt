-- The view state of a session, and the views that show it.
pub mod ViewState
-- What each component draws alone is in range.
pub mod ComponentRanges
-- Laws on commits and grids: drawing a commit is in range and paints its document, and a cleared grid is a screen of the document.
pub mod Laws
-- The whole screen.
pub mod AppView
-- When a view shows an accepted state: the condition of its row index.
pub mod RowIndex
-- The inline window of a session.
pub mod Window
-- A frame: the rows of a screen, its owners, the rows of keys, and the extent.
pub mod Frame
-- The index of an inline frame.
pub mod Index
-- Row ranges.
pub mod Runs
