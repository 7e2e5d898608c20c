-- What each row of a document shows in an area of the screen.
pub mod Shows
-- Who owns the columns of a row: parts, which are not cut at the area.
pub mod Parts
-- The rows that the code hands in.
pub mod ShownRows
-- The screen after a row is painted.
pub mod Painted
-- The document row by row, in an area of the screen.
pub mod AreaStrips
-- Laws of rows in an area.
pub mod Laws
