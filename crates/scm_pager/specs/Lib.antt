-- the lines of a side, with their marks
pub mod Sides
-- what contracts see of a window
pub mod WindowView
-- windows of lines
pub mod Windows
-- how many lines there are
pub mod Counts
-- the key table
pub mod Keys
-- where a line stands on a side
pub mod Places
-- where keys take a pager
pub mod Moves
-- what a pager shows
pub mod Pages
-- a pager that hears bytes
pub mod Heard
