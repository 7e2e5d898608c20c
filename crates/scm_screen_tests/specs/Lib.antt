-- What the sample components draw.
pub mod Samples
pub mod Tags
-- That a mask is in range is a fact with one proof.
pub mod Masks
-- Places where tests draw.
pub mod Near
pub mod Small
pub mod Corner
