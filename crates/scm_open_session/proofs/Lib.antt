-- how calls change a view
pub mod LayeredLemmas
-- how calls change a session
pub mod StageLemmas
-- return codes, and the texts that calls write
pub mod ResultLemmas
-- the screen of a session with a layer
pub mod ScreenCallLemmas
-- what `gabro_paint` writes
pub mod PaintLemmas
-- states that grow by calls
pub mod BuildLemmas
-- words that are handed in as one batch
pub mod BatchLemmas
-- how many events of a batch were handled
pub mod CountLemmas
-- the words of what a terminal sends
pub mod DecodeLemmas
-- keys of the user's own
pub mod KeyPieceLemmas
-- calls of a layer
pub mod LayerCallLemmas
-- headings of sections that a layer shows
pub mod HeadingLemmas
-- the log of the calls beneath a layer
pub mod LoggingLemmas
-- the marks of a file, and the selection of an item, by calls
pub mod MarkingLemmas
-- the calls of a program, one after another
pub mod StepLemmas
-- the screen of a session as cells
pub mod CellCallLemmas
-- how many lines of a file stand before an item
pub mod LineLemmas
-- worked examples of the definitions
mod Examples
