-- The definitions that contracts cite, in reading order.

-- names that a file system takes for another name
pub mod Folding
-- paths that name a file below the top folder
pub mod Names
-- the order of paths, and paths in folders
pub mod Paths
-- the paths of two trees, and what a choice leaves of them
pub mod Rows
-- the files that a choice must leave out
pub mod Refusals
-- how far the walk that looks for a clash has come
pub mod Scan
-- laws of what a choice leaves
pub mod Laws
-- lists that have the same values at each path
pub mod Holds
-- the files of two trees and what marks ask for, path by path
pub mod Places
-- why two trees and marks have no rows
pub mod GatherFaults
-- the rows of two trees and marks
pub mod Merge
-- the row of a path
pub mod Find
-- renamed files
pub mod Renames
-- what becomes of each path
pub mod Decisions
-- why nothing is decided
pub mod DecideFaults
-- what is wrong with a path, as a number
pub mod Faults
-- records of paths, and what they hold
pub mod Records
-- what the reading of bytes gives
pub mod Reading
-- the records of what is decided
pub mod Answers
-- answers that are told apart
pub mod ToldApart
