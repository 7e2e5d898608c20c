-- codes of calls, and what is handed in as bytes
pub mod CodeLemmas
-- pieces of a text, found one by one
pub mod PieceLemmas
-- the events of words that are handed in as one batch
pub mod WordLemmas
-- the first key for a front end among the events of bytes
pub mod KeyLemmas
-- the bytes of a file that shows a change
pub mod TextLemmas
-- what calls tell of a state
pub mod QuestionLemmas
