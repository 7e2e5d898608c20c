-- ---- definitions that proofs alone cite
pub mod Near
pub mod FilesOf
-- ---- lemmas
pub mod HeadingLemmas
pub mod WidthLemmas
pub mod CountLemmas
pub mod RowsLemmas
-- Draw calls in turn.
mod CallLemmas
pub mod SectionsLemmas
pub mod FilesLemmas
pub mod NearLemmas
pub mod StripLemmas
-- Rows off the screen, which drawing passes over where no boxes are kept.
pub mod PassLemmas
-- Texts that are cut behind the last column in sight.
mod VisibleLemmas
pub mod DocumentLemmas
pub mod AppShapeLemmas
pub mod BoxLemmas
pub mod OwnerLemmas
-- What each row shows, by its kind.
mod KindLemmas
pub mod SectionPieceLemmas
pub mod ViewPieceLemmas
pub mod OverlayRectLemmas
pub mod FileBoxLemmas
pub mod KeepLemmas
pub mod WindowLemmas
pub mod DocumentOwnerLemmas
pub mod PlaceLemmas
pub mod IndexLemmas
pub mod PieceLemmas
pub mod RunLemmas
pub mod DocumentExtentLemmas
