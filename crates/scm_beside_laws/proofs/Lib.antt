-- Sights of an area of the screen.
pub mod SeenLemmas
-- The picture of a document, row by row.
pub mod RowPaintLemmas
pub mod FilePaintLemmas
pub mod DocumentPaintLemmas
-- The columns that a document draws.
pub mod DrawnWidthLemmas
-- Rows of the screen keep their length.
pub mod LengthLemmas
-- The boxes of documents in an area.
pub mod AreaBoxLemmas
-- Who owns the columns of documents in an area.
pub mod RowOwnerLemmas
pub mod FileOwnerLemmas
pub mod DocumentOwnerLemmas
-- The rows of keys of documents in an area.
pub mod KeyLemmas
-- The rows of documents in an area.
pub mod RunLemmas
-- The whole screen.
pub mod BesideLemmas
pub mod BesidePaintLemmas
pub mod BesideOwnerLemmas
pub mod BesideKeyLemmas
pub mod BesideExtentLemmas
-- Runs that show two commits.
pub mod HeadlineLemmas
