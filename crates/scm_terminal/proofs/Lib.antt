-- ---- styles by their numbers
pub mod StyleLemmas
-- ---- commands one after another, on one row and on all
pub mod RunLemmas
pub mod RowLemmas
pub mod SentLemmas
pub mod SingleLemmas
pub mod AddingLemmas
pub mod ApartLemmas
pub mod SafeLemmas
-- a terminal of any widths
pub mod AnyLemmas
pub mod ShowingTerminals
pub mod PaintingLemmas
-- ---- what a grid shows
pub mod PictureLemmas
-- ---- what the code keeps and writes
pub mod StyledCellLemmas
pub mod ShowingLemmas
pub mod UpdateLemmas
pub mod PushLemmas
-- ---- no control is written
pub mod ControlLemmas
-- ---- what is written is read
pub mod ReadingLemmas
-- ---- a small screen, computed
mod Computed
-- a stream split byte by byte
pub mod StreamLemmas
-- what a decoder has heard
pub mod HeardLemmas
-- what holds of every stream
pub mod LawLemmas
-- what is pasted
pub mod PasteLemmas
-- what ends a paste
pub mod MarkLemmas
-- the bytes of each key
pub mod KeyLemmas
-- what silences tear
pub mod TearingLemmas
-- the grammar of sequences
pub mod GrammarLemmas
-- the keys of the grammar
pub mod MeaningLemmas
-- the first two passes put nothing of a symbol of one byte
pub mod ByteLemmas
-- letters that follow one another in one style
pub mod LetterRunLemmas
