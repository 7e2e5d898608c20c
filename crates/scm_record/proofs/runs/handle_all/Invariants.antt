use Rattle.std.proofs.Common.{◌≡◌, ℕ, drop}
use Rattle.scm_record.specs.Frames.{IsSceneOf, scene_of}
use Rattle.scm_record.specs.Session.{Session}
use Rattle.scm_record.specs.Run.{setting, world_in, Within, Reaches}
use Rattle.scm_record.proofs.runs.handle_all.Given as goal

-- the events so far lead here
abbrev pub invariant-loop-event : goal.invariant-loop-event
invariant-loop-event g l =
    let begun = (goal.RecordInput-dyn g l.fn.input.now) in
    let now = (goal.RecordInput-dyn g l.input.now) in
    ((drawn : Session) (frames : ℕ) → IsSceneOf (scene_of (begun.kind l.fn.input.now.1) drawn) l.frame
    → Reaches (Within drawn (world_in (setting (begun.kind l.fn.input.now.1) (begun.reads l.fn.input.now.1) (begun.edits l.fn.input.now.1) l.fn.screens) l.fn.session frames) l.events)
    (Within drawn (world_in (setting (now.kind l.input.now.1) (now.reads l.input.now.1) (now.edits l.input.now.1) l.screens) l.session frames) (drop l.event-index l.events)))
    × (l.screens.frames ≡ l.fn.screens.frames)
    × (now.kind l.input.now.1 ≡ begun.kind l.fn.input.now.1)
