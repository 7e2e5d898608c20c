-- how a page is turned
pub mod PageLemmas
-- runs: from point to point, and to one end
pub mod RunLemmas
pub mod EndLemmas
pub mod DrawableLemmas
-- what an event does to the state, and what it leaves pending
pub mod Budget
pub mod MenuLemmas
pub mod StepLemmas
-- what each step keeps of a session
pub mod InvariantLemmas
-- what is drawn, as a frame
pub mod FrameLemmas
pub mod FreePlacesLemmas
pub mod CurrentLemmas
-- how many frames are drawn, what is kept, what is not edited, what stays coherent
pub mod BudgetLemmas
pub mod EndingLemmas
pub mod KeepingLemmas
pub mod KeptLineLemmas
pub mod EditLemmas
pub mod StepCoherenceLemmas
-- the headline: what ends a run, what clears the screen, and how batches are handled
pub mod CalmLemmas
pub mod BatchLemmas
pub mod QuitLemmas
pub mod ShotLemmas
pub mod HeadlineLemmas
-- what stays within the limits
pub mod AcceptedLemmas
-- turns whose frame nobody sees
pub mod QuietLemmas
-- a session that a program drives: its batches, and its calls
pub mod HandleLemmas
pub mod CountLemmas
pub mod LiveLemmas
-- paths of its calls
pub mod PathLemmas
-- moves that lead to a given key, with what it lies in unfolded
pub mod WalkToLemmas
pub mod InsideLemmas
pub mod MoveToLemmas
pub mod FoldLemmas
pub mod JumpLemmas
-- a session that is driven by bytes
pub mod TypedLemmas
-- what a session shows on a terminal
pub mod PaintedLemmas
