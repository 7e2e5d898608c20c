-- Batches of a live session: where their events lead, up to the first after which the session does not go on.
use Rattle.std.specs.Prelude.{◌≡◌, ℕ, List, [], Some}
use Rattle.scm_input.specs.declared.events.Event.{Event}
use Rattle.scm_record.specs.declared.session.Flow.{Flow}
use Rattle.scm_record.specs.declared.session.Flow.TheVariants as flows
use Rattle.scm_record.specs.Session.{Session, IsDrawable, message_of, message_text}
use Rattle.scm_record.specs.Frames.{Scene, scene_of}
use Rattle.scm_record.specs.Run.{Setting, Point, world_in, Within, outcome_by, resume, Reaches}

-- the point of a run after an event that left the session `t` and asked for `flow`, with `rest` left of its batch
abbrev pub point_by : Setting → Session → Session → ℕ → Flow → List Event → Point
point_by a drawn t frames flow rest = resume drawn rest (outcome_by (scene_of a.kind drawn) (world_in a t frames) flow)

-- The events of a batch lead from the session `s` to `t`, where a scene is seen. The run then does `flow`, with `rest` left of the
-- batch.
pub record HandlesBatch (IsSeen : Scene → Type 0) (list : List Event) (s : Session) (flow : Flow) (rest : List Event) (t : Session) : Type 0 where
  -- the steps lead there
  pub reached : (a : Setting) (drawn : Session) (frames : ℕ) → IsSeen (scene_of a.kind drawn)
      → Reaches (Within drawn (world_in a s frames) list) (point_by a drawn t frames flow rest)
  -- if the session goes on, no event is left
  pub all : flow ≡ flows.GoOn → rest ≡ []
  -- what can be drawn still can be
  pub drawable : IsDrawable s → IsDrawable t
  -- a commit whose message is to be edited has one
  pub said : (commit : ℕ) → flow ≡ flows.Edit commit → message_of t commit ≡ Some (message_text t commit)
