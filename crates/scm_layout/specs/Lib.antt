-- how much of the files is marked
pub mod Marked
-- the counts of a state
pub mod Counts
-- what a toggle changes of them
pub mod Recounts
-- the rows of a state
pub mod Rows
-- what a fold changes of them
pub mod Refolds
-- the layout of a state
pub mod Layouts
-- sections one below the other
pub mod SectionStack
-- searches for a row
pub mod Searches
