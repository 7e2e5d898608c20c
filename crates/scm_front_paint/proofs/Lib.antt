-- cuts of a grid
pub mod CutLemmas
-- views sideways
pub mod SidewaysLemmas
-- commands that stay on some rows of a terminal
pub mod PartLemmas
-- pictures and grids of blanks with a row below, and the commands that make this row blank
pub mod BlankLemmas
-- the session's rows and the status row below them
pub mod BelowLemmas
-- both of them on a terminal of any widths
pub mod AnyWidthLemmas
-- texts whose clusters are those of two parts, the end of a line, and what a row shows of it
pub mod ApartLemmas
pub mod LineEndLemmas
pub mod PutEndLemmas
-- what the status row says
pub mod StatusLemmas
pub mod StatusEndLemmas
-- the words that differ in two lines
pub mod WordsLemmas
-- columns up to the edge of a window
pub mod ColumnLemmas
-- what views do
pub mod ViewLemmas
-- what is painted of a view
pub mod PaintLemmas
-- the styles of a row
pub mod ShownLemmas
-- the spans of a line, and the keys of lines
pub mod SyntaxLemmas
pub mod SyntaxKeyLemmas
-- what spans leave as it is
pub mod SyntaxLawLemmas
-- spans of a line, computed
pub mod SyntaxExamples
-- labels of sections
pub mod LabelLemmas
pub mod LabelOrderLemmas
-- the first bytes of a text, in whole characters
pub mod CutTextLemmas
-- the lines that sections stand in, and the labels that say them
pub mod HeadingLemmas
pub mod FoundLemmas
-- headings of a file, computed
pub mod HeadingExamples
-- headers, and the labels that they show
pub mod HeaderLemmas
-- the cells of a view
pub mod ViewCellLemmas
-- the status row alone
pub mod StatusRowLemmas
