-- the table of words, computed on some words
pub mod Examples
-- the parts of a word: a prefix, a number, one character
pub mod WordLemmas
