-- the errors with which a selection ends, by their kinds and texts
pub mod Fault
