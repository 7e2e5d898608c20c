-- The values of a live session: what a program has of it between two calls.
use Rattle.std.specs.Prelude.{◌≡◌, ℕ, List, []}
use Rattle.scm_input.specs.declared.events.Event.{Event}
use Rattle.scm_input.specs.declared.inputs.TerminalKind.{TerminalKind}
use Rattle.scm_record.specs.declared.frame.DrawnFrame.{DrawnFrame}
use Rattle.scm_record.specs.Session.{Session, IsDrawable, after_frame}

-- a live session that waits for an event: the value of the code's `LiveSession`
pub record Live : Type 0 where
  -- the session, as it was drawn
  pub session : Session
  -- its screen
  pub kind : TerminalKind

-- the same session, drawn on the screen `kind`
abbrev pub on_screen : Live → TerminalKind → Live
on_screen l kind = record { session = after_frame l.session; kind = kind }

-- a live session that waits for the message of a commit: the value of the code's `Editing`
pub record LiveEdit : Type 0 where
  -- the session after the event that asked for the message
  pub session : Session
  -- its screen
  pub kind : TerminalKind
  -- the index of the commit
  pub commit : ℕ
  -- the frame last drawn: what is left of the batch acts on what it shows
  pub frame : DrawnFrame
  -- the events that are left of the batch, which are handled after the message
  pub rest : List Event

-- a session that waits for an event can be drawn, and has no pending events
pub record IsCalm (s : Session) : Type 0 where
  pub drawable : IsDrawable s
  pub calm : s.pending ≡ []
