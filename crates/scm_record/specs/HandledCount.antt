-- How many events of a batch are handled: those up to the first after which the session does not go on.
use Rattle.std.specs.Prelude.{ℕ, ◌+◌, List, [], ◌∷◌, Result, Err, if◌then◌else◌}
use Rattle.scm_errors.specs.declared.error.RecordError.{RecordError}
use Rattle.scm_errors.specs.declared.error.RecordError.TheVariants.{OutOfMemory}
use Rattle.scm_types.specs.Limits.{is_short_text}
use Rattle.scm_input.specs.declared.events.Event.{Event}
use Rattle.scm_record.specs.declared.live.Turn.{Turn}
use Rattle.scm_record.specs.declared.session.Flow.{Flow}
use Rattle.scm_record.specs.declared.session.Flow.TheVariants as flows
use Rattle.scm_record.specs.Session.{Session, with_message}
use Rattle.scm_record.specs.Frames.{Scene, scene_of}
use Rattle.scm_record.specs.Live.{Live, LiveEdit}
use Rattle.scm_record.specs.Step.{change}

-- how many events behind an event that asks for `flow` are handled, if a session that goes on handles `later` of them
abbrev pub later_count : Flow → ℕ → ℕ
later_count flows.GoOn later = later
later_count flows.Accept later = 0
later_count flows.Cancel later = 0
later_count (flows.Edit commit) later = 0
later_count (flows.Shoot place) later = 0

-- how many events of a batch the session `s` handles, with `scene` as what was drawn last
abbrev pub handled_count : Scene → Session → List Event → ℕ
handled_count scene s [] = 0
handled_count scene s (event ∷ rest) =
    1 + later_count (change scene s event).flow (handled_count scene (change scene s event).session rest)

-- how many events of a batch that is handed in to `l` are handled
abbrev pub batch_count : Live → List Event → ℕ
batch_count l list = handled_count (scene_of l.kind l.session) l.session list

-- how many events of the rest of its batch `a` handles after the message `text`; none after one that is too long
abbrev pub rest_count : Scene → LiveEdit → List ℕ → ℕ
rest_count scene a text =
    if is_short_text text then handled_count scene (with_message a.session a.commit text) a.rest else 0

-- What a call with a result tells of the number of events that it handled: a number with `IsCount`. If an allocation failed, it may
-- tell 0 instead.
pub data Counts (IsCount : ℕ → Type 0) : Result Turn RecordError → ℕ → Type 0 where
  counted : {result : Result Turn RecordError} {told : ℕ} → IsCount told → Counts IsCount result told
  lost : Counts IsCount (Err OutOfMemory) 0
