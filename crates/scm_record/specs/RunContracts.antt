-- What contracts of the parts of a run say: the points that each part reaches, or the error that ends it.
use Rattle.std.specs.Prelude.{◌≡◌, ℕ, ◌+◌, ◌≤◌, List, None, MatchOption}
use Rattle.scm_errors.specs.declared.error.RecordError.{RecordError}
use Rattle.scm_errors.specs.Fault.{Fault, fault_of}
use Rattle.scm_input.specs.declared.events.Event.{Event}
use Rattle.scm_record.specs.declared.runs.Next.{Next}
use Rattle.scm_record.specs.declared.runs.Next.TheVariants as nexts
use Rattle.scm_input.specs.declared.inputs.TerminalKind.{TerminalKind}
use Rattle.scm_record.specs.declared.frame.DrawnFrame.{DrawnFrame}
use Rattle.scm_record.specs.Frames.{HasSize, IsSceneOf, Scene, scene_of}
use Rattle.scm_input.specs.Store.{counted}
use Rattle.scm_record.specs.Session.{Session}
use Rattle.scm_record.specs.Run.{Setting, World, world_in, Outcome, Goes, Ends, Breaks, step_in, Point, Before, Within, Accepted, Failed, Reaches, IsSameButSession, Stops}

-- the outcome for what the run does next, in the world `w`
abbrev pub outcome_of : Next → World → Outcome
outcome_of nexts.GoOn w = Goes w
outcome_of nexts.Accept w = Ends w

-- the point for what the run does next, in the world `w`
abbrev pub point_of : Next → World → Point
point_of nexts.GoOn w = Before w
point_of nexts.Accept w = Accepted w

-- the error is the fault `expected`, or an allocation failure
abbrev pub IsFault : Fault → RecordError → Type 0
IsFault expected error = MatchOption (fault_of error) (Unit {0}) (λ fault. fault ≡ expected)

-- The error ends a step from `w` with this outcome, and leaves `v`. Either it is the outcome's fault, or an allocation failed: for the
-- fault's words, or before the script and the store changed.
pub data Refuses (error : RecordError) (w : World) (outcome : Outcome) (v : World) : Type 0 where
  faulty : (fault : Fault) → outcome ≡ Breaks fault v → IsFault fault error → Refuses error w outcome v
  out_of_memory : fault_of error ≡ None → IsSameButSession v w → Refuses error w outcome v

-- an event leads from the session `s` and setting `a` to `t` and `b`, in each scene that is seen, after any number of frames
abbrev pub Follows : (Scene → Type 0) → Event → Next → Session → Setting → Session → Setting → Type 0
Follows IsSeen event next s a t b =
    (scene : Scene) (frames : ℕ) → IsSeen scene → step_in scene (world_in a s frames) event ≡ outcome_of next (world_in b t frames)

-- the error ends the step of an event from `s` and `a`, and leaves `t` and `b`
abbrev pub RefusesEvent : (Scene → Type 0) → Event → RecordError → Session → Setting → Session → Setting → Type 0
RefusesEvent IsSeen event error s a t b =
    (scene : Scene) (frames : ℕ) → IsSeen scene
    → Refuses error (world_in a s frames) (step_in scene (world_in a s frames) event) (world_in b t frames)

-- the frame shows the session `s`, and any other with the same view state and scroll, on each screen of its size
abbrev pub IsCurrent : Session → DrawnFrame → Type 0
IsCurrent s frame =
    (kind : TerminalKind) (t : Session)
    → t.shown ≡ s.shown → t.scroll ≡ s.scroll → HasSize kind frame → IsSceneOf (scene_of kind t) frame

-- the events of a batch lead from `s` and `a` to `t` and `b`, if the scene of the session last drawn is seen
abbrev pub Handles : (Scene → Type 0) → List Event → Next → Session → Setting → Session → Setting → Type 0
Handles IsSeen events next s a t b =
    (drawn : Session) (frames : ℕ) → IsSeen (scene_of a.kind drawn)
    → Reaches (Within drawn (world_in a s frames) events) (point_of next (world_in b t frames))

-- the error ends the batch from `s` and `a`, and leaves `t` and `b`
abbrev pub Ceases : (Scene → Type 0) → List Event → RecordError → Session → Setting → Session → Setting → Type 0
Ceases IsSeen events error s a t b =
    (drawn : Session) (frames : ℕ) → IsSeen (scene_of a.kind drawn)
    → Stops error (Within drawn (world_in a s frames) events) (world_in b t frames)

-- the error ends the start of a batch: as a fault by the steps, or as an allocation failure that leaves script and store unchanged
abbrev pub BatchStops : RecordError → Point → World → World → Type 0
BatchStops error p old new = MatchOption (fault_of error) (IsSameButSession new old) (λ fault. p ≡ Failed fault new)

-- the error ends a turn from `s` and `a`, and leaves `t` and `b`; at most one frame was drawn and counted
pub record TurnStops (error : RecordError) (s : Session) (a : Setting) (t : Session) (b : Setting) : Type 0 where
  -- how many frames were drawn
  pub drawn : ℕ
  pub few : drawn ≤ 1
  -- the store counts them
  pub counted : b.store.frames ≡ counted drawn a.store.frames
  -- the error ends the run there
  pub stops : (frames : ℕ) → Stops error (Before (world_in a s frames)) (world_in b t (frames + drawn))
