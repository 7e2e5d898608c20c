-- lists and sets of keys
pub mod KeySetLemmas
pub mod KeyListLemmas
pub mod MoveLemmas
pub mod PartLemmas
pub mod RelationLemmas
pub mod FindLemmas
pub mod WalkLemmas
-- sets of keys are in ascending order
pub mod KeyOrderLemmas
-- sets that have a flag for each file and section
pub mod KeyFlagLemmas
-- toggles, and the files that they keep coherent
pub mod ToggleLemmas
pub mod CoherenceLemmas
