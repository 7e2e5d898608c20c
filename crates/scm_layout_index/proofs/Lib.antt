-- the pieces of a small file
mod Examples
-- searches for what has a row
pub mod SectionLemmas
-- the places of all keys, and the rows of one
pub mod SpanLemmas
-- sections by their rows are those of their views
pub mod SectionViewLemmas
-- files by their rows are those of their views
pub mod FileLemmas
-- what the searches ask of the rows of a session
pub mod FitLemmas
-- what folds change of a copy of the rows
pub mod FrameRowLemmas
-- what the index answers
pub mod AnswerLemmas
-- what lies over a row
pub mod RowOwnerLemmas
-- the last row over which something lies
pub mod OverlayLemmas
-- the owners of a row that shows a changed line
pub mod ShownLineLemmas
-- where a run of columns ends
pub mod OwnerRunLemmas
-- the lines that rows show one below the other
pub mod LineRowLemmas
