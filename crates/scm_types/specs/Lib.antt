-- The definitions that contracts cite, in reading order.

-- the mode of a file, and how it prints
pub mod Mode
-- the marks of a section and of a file
pub mod Marks
-- the split of a file into two sides
pub mod Split
-- the laws of the marks and of the split
pub mod Laws
-- the limits of a state
pub mod Limits
-- states that are equal but for marks and messages, and files whose marks fit each other
pub mod Same
-- the repair of a file, after which its marks fit each other
pub mod Repair
-- the change of one element of a list
pub mod Edits
-- the final value of a list after a borrow of its elements ends
pub mod Lending
-- the marks seen so far in a list
pub mod Seen
-- texts joined from lines
pub mod Joined
-- keys: their parts and what they lie in, equal keys, and keys in a list
pub mod Keys
