-- lists of cells that grow
pub mod CellLemmas
