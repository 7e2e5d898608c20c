-- windows of lines
pub mod WindowLemmas
-- windows over sections
pub mod SectionLemmas
-- texts of spans
pub mod ShownLemmas
-- the lines of the split
pub mod LawLemmas
-- the page
pub mod PageLemmas
-- events after events
pub mod HeardLemmas
-- how many lines there are
pub mod CountLemmas
-- where a line stands
pub mod PlaceLemmas
