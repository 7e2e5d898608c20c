-- The lemmas of this crate.
mod PathLemmas
