use Rattle.std.proofs.Common.{◌≡◌, ℕ, IsTrue}
use Rattle.scm_record.specs.Frames.{HasSize}
use Rattle.scm_record.specs.Run.{setting, world_in, Before, Reaches}
use Rattle.scm_record.specs.RunContracts.{IsCurrent}
use Rattle.scm_input.specs.Store.{counted}
use Rattle.scm_record.proofs.Budget.{turns_left}
use Rattle.scm_record.proofs.runs.run_to_end.Given as goal

-- the turns so far lead here
abbrev pub invariant-loop-turn_end : goal.invariant-loop-turn_end
invariant-loop-turn_end g l =
    let begun = (goal.RecordInput-dyn g l.fn.input.now) in
    let now = (goal.RecordInput-dyn g l.input.now) in
    (frames : ℕ) ×
    Reaches (Before (world_in (setting (begun.kind l.fn.input.now.1) (begun.reads l.fn.input.now.1) (begun.edits l.fn.input.now.1) l.fn.screens) l.fn.session 0))
    (Before (world_in (setting (now.kind l.input.now.1) (now.reads l.input.now.1) (now.edits l.input.now.1) l.screens) l.session frames))
    × (l.screens.frames ≡ counted frames l.fn.screens.frames)
    × (now.kind l.input.now.1 ≡ begun.kind l.fn.input.now.1)
    × HasSize (begun.kind l.fn.input.now.1) l.frame
    × (IsTrue l.is_current → IsCurrent l.session l.frame)

-- the turns that are left fall
abbrev pub decreases-loop-turn_end : goal.decreases-loop-turn_end
decreases-loop-turn_end g l =
    let now = (goal.RecordInput-dyn g l.input.now) in
    turns_left (world_in (setting (now.kind l.input.now.1) (now.reads l.input.now.1) (now.edits l.input.now.1) l.screens) l.session 0)
