-- What the code of a live session keeps of its screen.
use Rattle.std.specs.Prelude.{◌≡◌, ℕ, Some}
use Rattle.scm_input.specs.declared.inputs.TerminalKind.{TerminalKind}
use Rattle.scm_record.specs.declared.frame.DrawnFrame.{DrawnFrame}
use Rattle.scm_record.specs.Session.{Session, IsDrawable, message_of, message_text}
use Rattle.scm_record.specs.Frames.{IsSceneOf, scene_of}
use Rattle.scm_record.specs.Live.{IsCalm}

-- while a session waits for an event, the frame shows it
pub record IsWaiting (kind : TerminalKind) (s : Session) (frame : DrawnFrame) : Type 0 where
  pub calm : IsCalm s
  pub shown : IsSceneOf (scene_of kind s) frame

-- while a session waits for a message, it can be drawn, the frame shows a session that was drawn on the screen, and the commit has a
-- message
pub record IsEditing (kind : TerminalKind) (s : Session) (frame : DrawnFrame) (commit : ℕ) : Type 0 where
  pub drawable : IsDrawable s
  pub shown : (drawn : Session) × IsSceneOf (scene_of kind drawn) frame
  pub said : message_of s commit ≡ Some (message_text s commit)
