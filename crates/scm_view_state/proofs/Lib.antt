-- the views of a view state, section by section and file by file
pub mod ViewLemmas
-- a document depends on what its view borrows, and not on the addresses
pub mod LentLemmas
-- the counts and rows of a layout are those of views
pub mod ViewRowLemmas
-- the view of a section by its counts
pub mod CountedLemmas
-- sets of expanded keys, with the keys of all lines behind them
pub mod LineSetLemmas
