-- the codes of calls: begin here
pub mod Codes
-- texts in a caller's buffer
pub mod Buffers
-- how a session ended
pub mod Ends
-- the screen of a window
pub mod Screens
-- the item that a place belongs to: its code and its key
pub mod Keys
-- the pieces of a text, and the events that they name
pub mod Pieces
-- the words of what a terminal sends
pub mod EventWords
-- a text between the quotation marks of JSON
pub mod Quoting
-- keys that the key table lacks, for a front end
pub mod KeyCodes
-- additions to a state, from bytes
pub mod FromBytes
-- a file of its old and its new text, and the text of a side
pub mod Texts
-- what calls tell of a state
pub mod States
-- the items of a state: their kinds, their parts, and the paths of files
pub mod Structure
-- what is written to a terminal at once
pub mod Updates
