-- whether a text has a pattern
pub mod Occurs
-- the item that a search finds, and the order of keys on the screen
pub mod Search
-- moves of the selection to a place
pub mod Places
-- the lines of a range
pub mod Ranges
-- marks that are to be set, by toggles
pub mod Targets
-- marks that were, by runs of items
pub mod Runs
-- what a step holds
pub mod Steps
-- toggles that lead to marks that were
pub mod Plans
-- what undo and redo keep
pub mod Histories
