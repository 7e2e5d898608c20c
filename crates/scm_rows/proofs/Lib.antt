-- how many rows there are at most
pub mod HeightLemmas
