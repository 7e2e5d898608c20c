-- a session, and the session after each action of the user on the document
pub mod Session
-- the scene: what was drawn last, and what the code keeps of it
pub mod Frames
-- the boxes of a frame that is not plain, and those that the screen showed
pub mod FreePlaces
-- queries of the scene: screenshots, hit tests, limits of the scroll
pub mod FrameQueries
-- the line that a row of the screen shows
pub mod ShownLines
-- the lines of several rows
pub mod FrameLines
-- the result of an event
pub mod Change
-- the help and the quit dialog
pub mod Dialogs
-- scrolling, and moves by a page
pub mod Pages
-- the request to edit a message
pub mod Messages
-- mouse clicks
pub mod Clicks
-- the session after each event: begin here
pub mod Step
-- runs, as steps from point to point
pub mod Run
-- which files an event keeps coherent
pub mod StepCoherence
-- what a run keeps of the given state
pub mod Keeping
-- the end of a run
pub mod Ending
-- the headline of a run
pub mod Headline
-- which events a live session takes as one batch
pub mod Batches
-- a session that a program drives
pub mod Live
-- the calls of a live session, as steps of runs
pub mod LiveCalls
-- how many events of a batch a live session handles
pub mod HandledCount
-- a key that is selected at once, as moves would select it
pub mod Jumps
-- what the code of a live session keeps of its screen
pub mod LiveView
-- how many lines of a state are marked
pub mod Marked
-- the picture of a live session: its screen and the styles
pub mod Painted
-- a live session that is driven by bytes of a terminal
pub mod Typed
-- what contracts of the parts of a run say
pub mod RunContracts
-- turns whose frame nobody sees
pub mod Quiet
-- the session that the fields of the code's `ActiveSession` represent
pub mod SessionView
-- of the crate of what is selected, so that a caller lists this crate alone
pub use Rattle.scm_selection.specs.KeyLists
pub use Rattle.scm_selection.specs.KeySet
pub use Rattle.scm_selection.specs.Moves
pub use Rattle.scm_selection.specs.Toggle
pub use Rattle.scm_selection.specs.Coherence
pub use Rattle.scm_selection.specs.Counts
-- of the crate of what is shown
pub use Rattle.scm_view_state.specs.Menus
pub use Rattle.scm_view_state.specs.Items
pub use Rattle.scm_view_state.specs.Styles
-- of the crate of the terminal's edge
pub use Rattle.scm_terminal.specs.Streams
pub use Rattle.scm_terminal.specs.Decoders
pub use Rattle.scm_terminal.specs.Style
pub use Rattle.scm_terminal.specs.StyledCell
pub use Rattle.scm_terminal.specs.Terminal
pub use Rattle.scm_terminal.specs.Promise
-- of the crate of inputs
pub use Rattle.scm_input.specs.Script
pub use Rattle.scm_input.specs.KeyTable
pub use Rattle.scm_input.specs.TestingInput
pub use Rattle.scm_input.specs.ScriptInput
pub use Rattle.scm_input.specs.Store
-- of the state's crate
pub use Rattle.scm_types.specs.Keys
pub use Rattle.scm_types.specs.Marks
pub use Rattle.scm_types.specs.Mode
pub use Rattle.scm_types.specs.Split
pub use Rattle.scm_types.specs.Limits
pub use Rattle.scm_types.specs.Laws
pub use Rattle.scm_types.specs.Same
pub use Rattle.scm_errors.specs.Fault
