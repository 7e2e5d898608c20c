-- ---- definitions that proofs alone cite
pub mod Latest
pub mod RowsWithin
-- ---- lemmas
pub mod AroundLemmas
pub mod BoundLemmas
pub mod CanvasLemmas
pub mod CountLemmas
pub mod CentringLemmas
pub mod DrawLemmas
pub mod HitLemmas
pub mod LatestLemmas
pub mod LineLemmas
pub mod MapLemmas
pub mod PictureLemmas
pub mod StepLemmas
pub mod PaintLemmas
pub mod RowLemmas
pub mod SpanLemmas
pub mod PlaceLemmas
mod RowPlaceLemmas
pub mod TargetLemmas
pub mod FillLemmas
