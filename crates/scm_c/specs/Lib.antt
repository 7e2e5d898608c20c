-- what the pointer of a C session owns
pub mod Ownership
-- what a call tells of a version without changes of blanks
pub mod Blanks
-- what calls tell of a merge
pub mod Merges
-- a side of a session's file, as trees take it
pub mod Sides
-- what calls tell of a pager
pub mod Pages
-- what calls tell of what becomes of paths
pub mod Trees
