-- cells as records, and lists of them
pub mod Cells
