-- The window of one commit.
pub mod InlineLemmas
-- What rows of documents show, by their layers.
mod RowLawLemmas
-- The row of a document that a search finds.
mod FoundLemmas
-- The rows of a message.
pub mod MessageLemmas
-- Rows of the screen, each painted by its number.
mod EachLemmas
mod PaintedLemmas
-- The first row of the screen, which the menu bar hides.
mod FirstRowLemmas
-- The row that a pinned header hides.
mod HeaderHidesLemmas
-- What lies over documents.
mod OverlaidLemmas
mod OverCountLemmas
-- Screens of two commits, computed from the definitions.
mod Computing
mod TwoCommits
-- What rows of a document show, computed from the definitions.
mod WorkedRows
-- What each row of a section shows, by its kind.
mod KindLemmas
-- The boxes of a section's rows.
mod SectionLemmas
-- What the header of a file shows.
mod HeaderLemmas
