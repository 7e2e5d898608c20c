-- The result of an event: the session after it, and what the run does next.
use Rattle.std.specs.Prelude.{ℕ}
use Rattle.scm_record.specs.declared.session.Flow.{Flow}
use Rattle.scm_record.specs.declared.session.Flow.TheVariants as flows
use Rattle.scm_record.specs.Session.{Session}

-- the session after an event, and what the run does next
pub record Change : Type 0 where
  -- the session after the event
  pub session : Session
  -- what the run does next
  pub flow : Flow

-- the run goes on with `s`
abbrev pub stays : Session → Change
stays s = record { session = s; flow = flows.GoOn }

-- the run ends, with the changes of `s` accepted
abbrev pub accepts : Session → Change
accepts s = record { session = s; flow = flows.Accept }

-- the run ends, cancelled by the user
abbrev pub cancels : Session → Change
cancels s = record { session = s; flow = flows.Cancel }

-- the run goes on with `s` after the message of the commit at index `commit` is edited
abbrev pub edits : ℕ → Session → Change
edits commit s = record { session = s; flow = flows.Edit commit }

-- the run goes on with `s` after the screen is kept at index `place` of the store
abbrev pub shoots : ℕ → Session → Change
shoots place s = record { session = s; flow = flows.Shoot place }
