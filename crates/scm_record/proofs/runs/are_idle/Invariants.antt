use Rattle.std.proofs.Common.{ℕ, drop}
use Rattle.scm_record.specs.Frames.{IsSceneOf, scene_of}
use Rattle.scm_record.specs.Session.{Session}
use Rattle.scm_record.specs.Run.{Setting, world_in, Within, Reaches}
use Rattle.scm_record.proofs.runs.are_idle.Given as goal

-- the events so far lead to the session itself
abbrev pub invariant-loop-event : goal.invariant-loop-event
invariant-loop-event l =
    (a : Setting) (drawn : Session) (frames : ℕ) → IsSceneOf (scene_of a.kind drawn) l.frame
    → Reaches (Within drawn (world_in a l.session frames) l.events) (Within drawn (world_in a l.session frames) (drop l.event-index l.events))
