-- The menu bar and its menus.
pub mod Menus
-- Dialogs: a frame in the middle of the screen, with buttons on its last row.
pub mod Dialogs
-- The texts of the menus, the quit dialog and the help dialog.
pub mod Tables
-- Overlays: the menu bar, the quit dialog and the help dialog.
pub mod Overlays
-- The counts of drawing the menu bar and the dialogs.
pub mod Counts
-- Overlay rectangles: rectangles over the rows of files, with their owners.
pub mod OverlayRects
-- Draw calls of overlays.
pub mod OverlayCalls
