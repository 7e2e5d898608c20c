-- where a run is after the event that accepts
pub mod AcceptLemmas
-- what calls tell after it
pub mod CallLemmas
