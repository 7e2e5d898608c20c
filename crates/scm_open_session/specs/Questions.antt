-- The state of a session that calls ask.
use Rattle.std.specs.Prelude.{ℕ, Option, Some, None, Result, Ok, Err}
use Rattle.scm_types.specs.declared.state.RecordState.{RecordState}
use Rattle.scm_open_session.specs.declared.open_session.OpenSession.{OpenSession}
use Rattle.scm_open_session.specs.declared.open_session.Stage.{Stage}
use Rattle.scm_open_session.specs.declared.open_session.Stage.TheVariants.{Building, Waiting, Editing, Accepted, Ended}
use Rattle.scm_open_session.specs.Running.{live_of}

-- ---- questions

-- The state that calls can ask at a stage: the one that is made, shown or accepted.
abbrev pub state_of_stage : Stage → Option RecordState
state_of_stage (Building state) = Some state
state_of_stage (Waiting s) = Some (live_of s).session.shown.state
state_of_stage (Editing a) = None
state_of_stage (Accepted state) = Some state
state_of_stage (Ended error) = None

-- The state of a stage, or the code of a session that has none to ask.
abbrev pub state_or_code : Option RecordState → Result RecordState ℕ
state_or_code None = Err 2
state_or_code (Some state) = Ok state

-- The state of a session, or the code of a session that has none to ask.
abbrev pub asked_state : Option OpenSession → Result RecordState ℕ
asked_state None = Err 1
asked_state (Some inner) = state_or_code (state_of_stage inner.stage)
