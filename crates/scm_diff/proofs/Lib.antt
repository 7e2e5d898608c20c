-- the lines of a text, and lines joined to a text
pub mod LineLemmas
-- hunks that are found from the front
pub mod HunkLemmas
-- the changed lines of a hunk, in pairs
pub mod PairLemmas
-- the lines of the sections of a file
pub mod ChangedSectionLemmas
-- the lines of a side, as lines of the file
pub mod FileLineLemmas
-- files of changes, and their marks
pub mod ChangeLemmas
-- a text that is joined line by line
pub mod SideLemmas
-- bytes as a text, and back
pub mod ByteLemmas
-- a version without changes of blanks
pub mod BlankLemmas
-- the words of a line
pub mod WordLemmas
-- what two lines have in common at their ends
pub mod EndLemmas
-- worked examples of the definitions
pub mod Examples
