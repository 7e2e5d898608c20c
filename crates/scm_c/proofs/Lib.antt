-- a pointer beside an allocator, as the machine holds them
pub mod Beside
-- a raw box
pub mod RawBoxes
-- a session's pointer
pub mod SessionPtrs
-- the codes of calls of a pager
pub mod PagerLemmas
