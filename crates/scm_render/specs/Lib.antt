-- The least rectangle around several.
pub mod Around
-- Pictures: puts of texts, boxes of components, and covered rectangles.
pub mod Picture
-- The content of a viewport, and its content after a picture is drawn.
pub mod Canvas
-- The picture of each draw call.
pub mod Drawing
-- The effect of a draw call on a viewport.
pub mod Draws
-- The draw calls of a viewport, each as its picture and its counts.
pub mod DrawCalls
-- Places on the screen, and boxes with their timestamps.
pub mod Places
-- Rectangles in the middle of other rectangles.
pub mod Centring
-- The owner of a point, by the list of boxes.
pub mod Hits
-- The target of a click, by the map of boxes.
pub mod Target
-- Bounds of a picture.
pub mod Bounds
-- A row of the screen after texts are put on it.
pub mod Rows
-- Where texts are put on a row of the screen.
pub mod RowPlaces
-- Values of consecutive rows.
pub mod Lines
-- The remaining picture of a loop that draws part by part.
pub mod Left
-- Laws for whoever writes or draws a component.
pub mod Laws
-- The boxes that a viewport keeps.
pub mod Kept
-- The rows that drawing has to go through.
pub mod ToDraw
