-- The window of two commits by drawing.
pub mod Laws
-- What runs show of two commits.
pub mod Runs
