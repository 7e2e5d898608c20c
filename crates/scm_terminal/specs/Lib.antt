-- styles as numbers, and as the bytes that set them
pub mod Style
-- the content of one column, and the picture of a grid, in styles
pub mod StyledCell
-- the symbol that a text of a column stands for
pub mod CellText
-- symbols of one byte in the columns of a row
pub mod Letters
-- the cells that are sent for a row
pub mod Sent
-- a model terminal, its commands, and their bytes
pub mod Terminal
-- a terminal of any widths
pub mod AnyTerminal
-- a terminal that adds up the columns of code points
pub mod Adding
-- the commands that a terminal reads in bytes
pub mod Reading
-- the commands of a paint: those of the rows that changed
pub mod Painting
-- the style that the fields of `NumberedStyle` represent
pub mod NumberedStyle
-- cells of which a pass puts nothing
pub mod PassedOver
-- letters that follow one another in one style
pub mod LetterRun
-- the cell that the fields of `StyledCell` represent
pub mod StyledCellView
-- the line that the fields of `Row` represent
pub mod RowView
-- the last picture that the fields of `Painter` represent
pub mod PainterView
-- the promise of a paint to every terminal
pub mod Promise
-- classes of bytes, by ECMA-48 and UTF-8
pub mod Bytes
-- keys that are one byte
pub mod ByteKeys
-- mouse reports in xterm's SGR form
pub mod Mouse
-- escape sequences: CSI and SS3
pub mod Sequences
-- characters of several bytes, in UTF-8
pub mod Characters
-- the tokens and the events of a stream of bytes
pub mod Streams
-- bytes and silences
pub mod Silences
-- the state machine of the decoder
pub mod Transitions
-- the decoder, byte by byte
pub mod Decoders
-- the bytes of each row of the key table
pub mod KeyBytes
-- what silences do to a sequence and to a paste
pub mod Tearing
-- whole sequences by the grammar of ECMA-48, a second definition
pub mod Grammar
