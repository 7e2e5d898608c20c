pub mod NearLemmas
pub mod SampleLemmas
pub mod ViewLemmas
pub mod CornerLemmas
