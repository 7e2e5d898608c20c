-- what screens computed from the definitions share
pub mod Computing
-- texts that are cut, with an ellipsis
pub mod Ellipses
-- what a line shows of bytes that are no UTF-8
pub mod Bytes
-- the rows of two small files
pub mod Documents
-- menus and dialogs
pub mod Overlays
-- how much is drawn, and the index of rows
pub mod Counted
-- whole screens, owners and extents of small sessions
pub mod Windows
-- screens that are scrolled, or that have dialogs
pub mod Screens
-- styles of small sessions
pub mod Styles
-- what events make of small sessions
pub mod Steps
-- the largest states that are accepted
pub mod Limits
-- what a terminal sends
pub mod Sequences
-- what a terminal is sent, read as commands
pub mod Commands
