-- The definitions that contracts cite, in reading order.

-- the differences of two lists of lines
pub mod Hunks
-- how the changed lines of a hunk are listed
pub mod Pairs
-- the sections of a file that differs
pub mod Sections
-- lines joined to a text, and the text of a side
pub mod Sides
-- bytes as a text, and back
pub mod Bytes
-- what the file of a change promises
pub mod Change
-- from file to file
pub mod Files
-- a version without changes of blanks
pub mod Blanks
-- the parts in which two lines differ
pub mod Words
