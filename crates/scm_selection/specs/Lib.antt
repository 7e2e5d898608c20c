-- the keys of a state in order, and which of them are visible
pub mod KeyLists
-- sets of keys, as that of the unfolded ones
pub mod KeySet
-- sets that have a flag for each file and section
pub mod KeyFlags
-- where the selection moves to
pub mod Moves
-- the keys before and after a key, and the keys at which a move stops
pub mod KeysAround
-- the files after a toggle
pub mod Toggle
-- the files that a toggle keeps coherent
pub mod Coherence
-- what the quit dialog counts
pub mod Counts
