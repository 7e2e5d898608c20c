-- the session beneath: one that has begun, and jumps of it
pub mod Begun
-- the log of its calls
pub mod Logging
-- what its calls lead to
pub mod Driving
-- lists of events that are handed in one after another
pub mod Presses
-- marks that are set and folds that are closed, one after another
pub mod Deeds
-- folds and a selection at the start
pub mod Starting
-- a session that hears the layer's keys
pub mod Free
-- the text that is searched for, and the keys that type it
pub mod Asking
-- the layer's key table
pub mod Actions
-- what else the layer keeps
pub mod Keeping
-- which marks an event may change, and what is kept of them
pub mod Recording
-- marks that are restored
pub mod Restoring
pub mod Scrolling
-- what the layer says of an event that it hands in
pub mod Passing
-- clicks on boxes
pub mod Clicking
-- fronts: what they do with what they hear, and the calls of the session beneath
pub mod Fronts
-- what the layer makes of a turn to which events led
pub mod Handing
