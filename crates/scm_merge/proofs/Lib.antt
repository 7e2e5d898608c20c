-- a walk over the hunks of a side
pub mod CursorLemmas
-- regions that are found one after another
pub mod RegionLemmas
-- the lines that two lists share at their ends
pub mod SharedLemmas
-- the sections of a merge, made part by part
pub mod PartLemmas
-- laws of the merge
pub mod LawLemmas
-- merges whose sides are exchanged
pub mod ExchangeLemmas
-- what marks give
pub mod MarkLemmas
-- the merge of three texts, from bytes to bytes
pub mod MergeLemmas
-- how many equal bytes a line begins with
pub mod StyleLemmas
-- the merge with markers around each open conflict
pub mod MarkerLemmas
-- the steps over lines and sections that are written with markers
pub mod MarkingLemmas
-- where the lines of a merge come from
pub mod OriginLemmas
-- worked examples of the definitions
pub mod Examples
