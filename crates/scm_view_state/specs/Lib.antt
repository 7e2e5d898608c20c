-- the first view state of a state
pub mod ViewState
-- the keys of all lines, which are kept as a flag
pub mod LineKeys
-- the menus, and the events of their items
pub mod Menus
-- views without the addresses of what they borrow
pub mod Views
-- the fold of a file, computed from the views of its sections; only contracts of this crate cite it
pub mod Folds
-- what a key names
pub mod Items
-- the style of each place of the screen
pub mod Styles
-- a mark by counts of items
pub mod Marks
-- the numbers of views, by the counts of a layout
pub mod ViewCounts
-- the rows of views, by those of a layout
pub mod ViewRows
