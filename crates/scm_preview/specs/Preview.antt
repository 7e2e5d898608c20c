-- What accepting gives of a live session.
use Rattle.std.specs.Prelude.{◌≡◌, [], false, None}
use Rattle.scm_errors.specs.declared.error.RecordError.{RecordError}
use Rattle.scm_errors.specs.declared.error.RecordError.TheVariants.{OutOfMemory}
use Rattle.scm_input.specs.declared.events.Event.TheVariants.{QuitAccept}
use Rattle.scm_record.specs.Live.{Live}
use Rattle.scm_record.specs.LiveCalls.{EventFails, EventLeads}
use Rattle.scm_record.specs.declared.live.Turn.{Turn}
use Rattle.scm_record.specs.declared.live.Turn.TheVariants.{Accepted}

-- The session has no pending events, and neither the help nor the quit dialog is open.
pub record CanAccept (l : Live) : Type 0 where
  pub calm : l.session.pending ≡ []
  pub no_dialog : l.session.shown.quit_dialog ≡ None
  pub no_help : l.session.shown.is_help_open ≡ false

-- The event that accepts leads to the state that is shown, and to nothing else.
abbrev pub AcceptsWhatIsShown : Live → Type 0
AcceptsWhatIsShown l = (turn : Turn) → EventLeads l QuitAccept turn → turn ≡ Accepted l.session.shown.state

-- It fails only if an allocation does.
abbrev pub FailsByMemory : Live → Type 0
FailsByMemory l = (error : RecordError) → EventFails l QuitAccept error → error ≡ OutOfMemory
