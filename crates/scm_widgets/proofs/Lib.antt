-- ---- definitions that proofs alone cite
pub mod Near
pub mod OwnButtons
-- ---- lemmas
pub mod HiddenLemmas
pub mod CoverLemmas
pub mod WidthLemmas
pub mod CountLemmas
pub mod DrawsStrips
pub mod ButtonLemmas
pub mod PlacedLemmas
pub mod MenuLemmas
pub mod DialogLemmas
pub mod BoxLemmas
pub mod SeamLemmas
pub mod OverlayRectLemmas
pub mod SameLemmas
pub mod IdBoxLemmas
