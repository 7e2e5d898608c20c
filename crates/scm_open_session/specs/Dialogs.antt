-- The dialog that a session shows.
use Rattle.std.specs.Prelude.{ℕ, Option, Some, None, is_some, if◌then◌else◌}
use Rattle.scm_record.specs.Live.{Live}
use Rattle.scm_open_session.specs.declared.open_session.OpenSession.{OpenSession}
use Rattle.scm_open_session.specs.declared.open_session.Stage.{Stage}
use Rattle.scm_open_session.specs.declared.open_session.Stage.TheVariants.{Building, Waiting, Editing, Accepted, Ended}
use Rattle.scm_open_session.specs.Running.{live_of}

-- The code of the dialog of a session that waits for an event: 2 for the help, which lies over the question before quitting, 1 for that
-- question, and 0 if none is open.
abbrev pub dialog_in : Live → ℕ
dialog_in l = if l.session.shown.is_help_open then 2 else if is_some l.session.shown.quit_dialog then 1 else 0

-- The code at a stage. No dialog is open where the session waits for no event.
abbrev pub dialog_at : Stage → ℕ
dialog_at (Building state) = 0
dialog_at (Waiting s) = dialog_in (live_of s)
dialog_at (Editing a) = 0
dialog_at (Accepted state) = 0
dialog_at (Ended error) = 0

-- The code of a session, or of a closed one.
abbrev pub dialog_of : Option OpenSession → ℕ
dialog_of None = 0
dialog_of (Some inner) = dialog_at inner.stage
