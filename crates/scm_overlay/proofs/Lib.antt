-- ---- definitions that proofs alone cite
pub mod Ranges
pub mod Parts
pub mod OpenMenus
pub mod OverlaysPicture
-- ---- lemmas
pub mod PlaceLemmas
pub mod DialogPlaceLemmas
pub mod MenuPartsLemmas
pub mod MenuLemmas
pub mod DialogLemmas
pub mod RangeLemmas
pub mod FixedLemmas
pub mod ClosedMenus
pub mod OverlayLemmas
pub mod OverlayOwnerLemmas
