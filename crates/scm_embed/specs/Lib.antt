-- The definitions that contracts cite, in reading order.

-- the lines of a text
pub mod Lines
-- what an addition leaves, and why it is refused
pub mod Additions
-- the mark of a file, a section or a line
pub mod MarkOf
-- the marks of a file that are handed in
pub mod Marked
