-- What each row of a document shows.
pub mod DocumentRows
-- The file that has a row of a document.
pub mod RowFiles
-- The window of one commit, and of two beside each other.
pub mod Beside
-- Sections by the counts of their files.
pub mod Sections
-- Headers of files by their counts.
pub mod Headers
-- What lies over documents.
pub mod Overlaid
-- Laws of windows.
pub mod Laws
