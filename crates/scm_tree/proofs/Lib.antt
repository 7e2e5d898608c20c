-- elements of a list
pub mod ElementLemmas
-- places of bytes
pub mod ByteLemmas
-- names that a file system takes for another name
pub mod FoldingLemmas
-- the names of a path
pub mod NameLemmas
-- worked examples of the definitions
pub mod Examples
-- the order of paths, and paths in folders
pub mod PathLemmas
-- the walk that finds a clash
pub mod ScanLemmas
-- why a file has to be left out
pub mod RefusalLemmas
-- rows that were looked at
pub mod CheckLemmas
-- laws of what a choice leaves
pub mod LawLemmas
-- rows the other way round
pub mod ExchangeLemmas
-- lists that have the same values at each path
pub mod HoldsLemmas
-- how often a path is in a list
pub mod TimesLemmas
-- the places of two trees and marks
pub mod PlaceLemmas
-- places that are gathered path by path
pub mod GatherLemmas
-- the rows of two trees and marks
pub mod MergeLemmas
-- the row of a path
pub mod FindLemmas
-- what becomes of each path
pub mod DecisionLemmas
-- why nothing is decided
pub mod ReasonLemmas
-- a record and the letters of its bytes
pub mod RecordLemmas
-- what bytes hold, part by part
pub mod ReadLemmas
-- the records of what is decided
pub mod AnswerLemmas
-- answers that are told apart
pub mod ToldApartLemmas
