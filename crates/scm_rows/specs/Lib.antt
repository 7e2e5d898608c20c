-- what a section and its lines count for
pub mod Lines
-- the lines of context that a section shows
pub mod Context
-- the rows of a section
pub mod Heights
-- what each row shows
pub mod Kinds
