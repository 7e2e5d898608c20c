-- The texts of checkboxes and buttons.
pub mod Texts
-- Pictures of checkboxes and buttons, and of the columns up to the end of the mask.
pub mod Pictures
-- What texts cover on rows off the screen.
pub mod Covers
-- Layers: strips on consecutive rows, each with what it shows and who owns its columns.
pub mod Layers
-- Columns that are blanked.
pub mod Blanks
-- The places at which a component alone can be drawn.
pub mod DrawBounds
-- Buttons and rows of buttons.
pub mod Buttons
-- A dialog as a value: its id, its title, its body and its buttons.
pub mod ShownDialogs
-- The buttons of the quit dialog: which of them quits.
pub mod QuitButtons
-- A screen at a row of the document.
pub mod Screens
-- The components that a click acts on.
pub mod Clicks
-- The equality of ids.
pub mod SameIds
-- The counts of drawing: rows of the document that are begun, and draw calls.
pub mod Counts
-- Overlay rectangles: the owners of columns and rows over the document.
pub mod OverlayRects
-- Checkboxes and fold boxes of components.
pub mod Boxes
-- Draw calls on one row, and of a component under a mask.
pub mod DrawCalls
