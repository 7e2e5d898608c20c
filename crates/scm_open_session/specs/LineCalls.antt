-- The line of a file at which the selected item is, as calls tell it.
use Rattle.std.specs.Prelude.{ℕ, Option, Some, None}
use Rattle.scm_record.specs.Live.{Live}
use Rattle.scm_open_session.specs.declared.line_place.LinePlace.{LinePlace}
use Rattle.scm_open_session.specs.declared.open_session.OpenSession.{OpenSession}
use Rattle.scm_open_session.specs.declared.open_session.Stage.{Stage}
use Rattle.scm_open_session.specs.declared.open_session.Stage.TheVariants.{Building, Waiting, Editing, Accepted, Ended}
use Rattle.scm_open_session.specs.LinePlaces.{place_of}
use Rattle.scm_open_session.specs.Running.{live_of}

-- The place of the selected item of a live session.
abbrev pub place_in_live : Live → Option LinePlace
place_in_live l = place_of l.session.shown.selection l.session.shown.state

-- The place of the selected item at a stage. None unless the session waits for an event.
abbrev pub place_at_stage : Stage → Option LinePlace
place_at_stage (Building state) = None
place_at_stage (Waiting s) = place_in_live (live_of s)
place_at_stage (Editing a) = None
place_at_stage (Accepted state) = None
place_at_stage (Ended error) = None

-- The place of the selected item of a session. None if it is closed.
abbrev pub selected_place : Option OpenSession → Option LinePlace
selected_place None = None
selected_place (Some inner) = place_at_stage inner.stage

-- The code of a call that tells a place: not now without one.
abbrev pub code_of_place : Option LinePlace → ℕ
code_of_place None = 2
code_of_place (Some place) = 0

-- The code of a call that tells the place of the selected item.
abbrev pub code_of_selected_line : Option OpenSession → ℕ
code_of_selected_line None = 1
code_of_selected_line (Some inner) = code_of_place (place_at_stage inner.stage)
