-- The definitions that contracts cite, in reading order.

-- where three lists of lines differ
pub mod Regions
-- what becomes of each part of three lists of lines
pub mod Parts
-- the sections of a merge
pub mod Sections
-- what a merge promises
pub mod Merge
-- conflicts of which nothing is chosen
pub mod Open
-- what is written of each section
pub mod Roles
-- how long markers are, and how their lines end
pub mod Style
-- the bytes of a merge with markers around each open conflict
pub mod Markers
-- where the lines of a merge come from
pub mod Origins
-- laws of the merge
pub mod Laws
-- the merge of three files, as records of bytes
pub mod Records
-- what marks make of a merge
pub mod Marked
-- the same, with markers around each conflict that is open
pub mod WithMarkers
