-- What accepting gives of a session of C: what calls told of it before.
use Rattle.std.specs.Prelude.{◌≡◌, Some}
use Rattle.scm_errors.specs.declared.error.RecordError.TheVariants.{OutOfMemory}
use Rattle.scm_types.specs.declared.state.RecordState.{RecordState}
use Rattle.scm_open_session.specs.declared.open_session.OpenSession.{OpenSession}
use Rattle.scm_open_session.specs.declared.open_session.Stage.TheVariants.{Accepted, Ended, Waiting}
use Rattle.scm_open_session.specs.declared.running.Running.{Running}
use Rattle.scm_open_session.specs.Questions.{asked_state}
use Rattle.scm_open_session.specs.Running.{live_of}
use Rattle.scm_preview.specs.Preview.{CanAccept}

-- The session waits for an event, and the event that accepts would accept: that of the session beneath a layer, if there is one.
pub record MayAccept (inner : OpenSession) : Type 0 where
  pub session : Running
  pub waits : inner.stage ≡ Waiting session
  pub can : CanAccept (live_of session)

-- The session is accepted, and calls ask the state that they asked before.
pub record TellsTheSame (old new : OpenSession) : Type 0 where
  pub state : RecordState
  pub accepted : new.stage ≡ Accepted state
  pub same : asked_state (Some new) ≡ asked_state (Some old)

-- The session has ended, since an allocation failed.
abbrev pub IsRefused : OpenSession → Type 0
IsRefused new = new.stage ≡ Ended OutOfMemory
