-- the lines of a text, cut off one by one
pub mod LineLemmas
-- changes of the last element of a list
pub mod LastLemmas
-- marks that are handed in
pub mod MarkedLemmas
