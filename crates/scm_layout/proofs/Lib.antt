-- lists that change element by element
pub mod ZipLemmas
-- a toggle changes marks alone
pub mod BareLemmas
-- a file without a change of the mode
pub mod ModeLemmas
-- the counts of sections and files after a toggle
pub mod CountLemmas
-- the counts of the files of a state
pub mod FilesLemmas
-- how much of the files is marked
pub mod MarkedLemmas
-- the rows of sections and files
pub mod RowLemmas
-- files one below the other
pub mod StackLemmas
-- sets of unfolded keys that agree on sections
pub mod AgreeLemmas
-- a fold of one section
pub mod MendLemmas
pub mod SectionStackLemmas
-- a fold of one file
pub mod FoldLemmas
-- toggles change no row
pub mod MarkLemmas
-- a small file, computed
pub mod Examples
-- searches for a row
pub mod SearchLemmas
-- a layout and its parts
pub mod LayoutLemmas
