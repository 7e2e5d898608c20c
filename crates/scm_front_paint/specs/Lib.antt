-- numbers as the code has them
pub mod Capped
-- a view sideways, of a session that is wider than the terminal
pub mod Sideways
-- a view on a terminal of any widths
pub mod AnyWidths
-- the symbols of a screen, by their places
pub mod Symbols
-- a grid that has the columns of a screen from a column on
pub mod Cut
-- what becomes of a style when it is painted
pub mod Themes
-- the words that differ in a removed line and the added line that replaces it
pub mod Words
-- the value of what is set off in a line
pub mod LineValue
-- what the code's values of words represent
pub mod WordsView
-- syntax: what a host says of the parts of a line, and how it looks
pub mod Syntax
-- the order of the keys of lines
pub mod SyntaxKeys
-- the spans on the rows of a screen
pub mod SyntaxRows
-- what spans leave as it is
pub mod SyntaxLaws
-- labels of sections, in place of their numbers
pub mod Labels
-- the lines that sections stand in, and the labels that say them
pub mod Headings
-- headers of a session's screen, and the labels that they show
pub mod Headers
-- the symbols of the code's source of a cut
pub mod Source
-- where a terminal stands over a session, and the keys that move it sideways
pub mod Pane
-- the values of views
pub mod Seen
-- what views do with what they hear
pub mod Views
-- a range on the screen
pub mod Range
-- the end of a line that some columns show
pub mod LineEnds
-- the status row: what it says, and what it shows
pub mod Status
-- pictures of blanks with a row below, and the commands that make this row blank
pub mod Blank
-- the session's rows and the status row below them on a terminal
pub mod Below
-- what becomes of the styles of a row
pub mod Restyling
-- the styles of the code's screens
pub mod ShownView
-- a view as cells
pub mod ViewCells
-- the status row of a view, as a program reads it
pub mod StatusRow
