-- the values of boxes
pub mod Boxes
-- a session that waits, with or without a layer over it
pub mod Running
-- what a session is painted with
pub mod Painters
-- a session with a layer: what its calls do to a view
pub mod Layered
-- what a session waits for, and how calls change that: begin here
pub mod Stages
-- return codes, and the texts that calls write
pub mod Results
-- the owner of a place on the screen
pub mod Owners
-- what calls add to a state that is made, and how a session begins with it
pub mod Building
-- the state that calls ask
pub mod Questions
-- typing up to a key that the key table lacks
pub mod FrontKeys
-- what `gabro_paint` writes
pub mod Paint
-- the screen as cells
pub mod Cells
-- words that are handed in as one batch
pub mod Batches
-- how many events of a batch were handled
pub mod Counting
-- the words of what a terminal sends
pub mod Decoding
-- calls of a layer: how a session begins with it, its theme, and the start
pub mod LayerCalls
-- headings of sections that a layer shows
pub mod Headings
-- keys of the user's own
pub mod OwnKeys
-- the log of the calls beneath a layer, as a script
pub mod Logging
-- the marks of a file of a state that is made
pub mod Marking
-- the dialog that a session shows
pub mod Dialogs
-- the selection of an item by a call
pub mod Selecting
-- the calls of a program, one after another, and what they come to
pub mod Steps
-- the line of a file at which an item is
pub mod LinePlaces
-- the line of the selected item
pub mod LineCalls
