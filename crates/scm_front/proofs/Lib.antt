-- lists of events that are handed in one after another
pub mod PressLemmas
-- the turn that an event leads to
pub mod TurnLemmas
-- events after which a session always waits
pub mod OutcomeLemmas
-- folds at the start, and deeds, after which a session waits
pub mod StartLemmas
-- the same events lead to the same session
pub mod ReplayLemmas
-- sessions that have begun, and jumps of them
pub mod BegunLemmas
-- calls that are logged
pub mod LoggingLemmas
-- deeds that are done one after another
pub mod DeedLemmas
-- deeds that fold again, whatever lines are expanded
pub mod LineFoldLemmas
-- what deeds do with the files of a session
pub mod RangeLemmas
-- events of a terminal that are heard one after another
pub mod HearLemmas
-- what each call of a front does
pub mod DoLemmas
-- what an event does with the files of a session
pub mod EffectLemmas
-- what the steps of a run do with them
pub mod ReachLemmas
-- what is kept of an action leads back
pub mod RememberLemmas
-- the way back of the screen
pub mod ScrollLemmas
-- what is kept of a range leads back
pub mod RangeReachLemmas
-- marks after an undo
pub mod UndoLemmas
-- paths of a front
pub mod FrontLemmas
-- examples, computed
mod Examples
