-- a pattern in a text
pub mod OccursLemmas
-- the item that a search finds
pub mod SearchLemmas
-- lists that grow by a loop
pub mod PushLemmas
-- marks that are written over
pub mod RunLemmas
-- marks by place, and runs that are written over them
pub mod PlaceLemmas
-- the items that runs have
pub mod RunPlaceLemmas
-- the number of marks of each section
pub mod ShapeLemmas
-- the runs of a key hold what its toggle changes
pub mod ToggleRunLemmas
-- the runs of files hold what deeds in them change
pub mod DeedRunLemmas
-- a step can be taken back
pub mod BackLemmas
-- the marks of lines after lines are set
pub mod MarkLemmas
-- steps that are kept within the bounds
pub mod HistoryLemmas
