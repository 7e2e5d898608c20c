-- The owner of a place on a session's screen: its code, and the key of the item that it belongs to.
use Rattle.std.specs.Prelude.{ℕ, ◌+◌, Option, Some, None}
use Rattle.scm_widgets.specs.declared.ids.ComponentId.{ComponentId}
use Rattle.scm_record.specs.Frames.{scene_of}
use Rattle.scm_record.specs.FrameQueries.{hit}
use Rattle.scm_open_session.specs.declared.open_session.OpenSession.{OpenSession}
use Rattle.scm_open_session.specs.declared.open_session.Stage.{Stage}
use Rattle.scm_open_session.specs.declared.open_session.Stage.TheVariants.{Building, Waiting, Editing, Accepted, Ended}
use Rattle.scm_c_values.specs.declared.owners.Key.{Key}
use Rattle.scm_open_session.specs.declared.running.Running.{Running}
use Rattle.scm_open_session.specs.Running.{live_of, offset_of}
use Rattle.scm_c_values.specs.Keys.{code_of_owner, no_key, key_of_item, key_of_owner}

-- ---- places

-- The component that a click at `row`, `column` of the terminal hits. With a layer nothing owns the status row.
abbrev pub hit_of_running : Running → ℕ → ℕ → Option ComponentId
hit_of_running s row column =
    let l = live_of s in
    hit (scene_of l.kind l.session) l.session.scroll row (offset_of s + column)

-- The code of the owner that a click at `row`, `column` of the screen hits. 0 unless the session waits for an event.
abbrev pub owner_of_stage : Stage → ℕ → ℕ → ℕ
owner_of_stage (Building state) row column = 0
owner_of_stage (Waiting s) row column = code_of_owner (live_of s).session.shown (hit_of_running s row column)
owner_of_stage (Editing a) row column = 0
owner_of_stage (Accepted state) row column = 0
owner_of_stage (Ended error) row column = 0

-- The key of that owner. No key unless the session waits for an event.
abbrev pub key_of_stage : Stage → ℕ → ℕ → Key
key_of_stage (Building state) row column = no_key
key_of_stage (Waiting s) row column = key_of_owner (hit_of_running s row column)
key_of_stage (Editing a) row column = no_key
key_of_stage (Accepted state) row column = no_key
key_of_stage (Ended error) row column = no_key

-- The code of the owner at `row`, `column` of a session's screen. 0 if the session is closed.
abbrev pub owner_of_session : Option OpenSession → ℕ → ℕ → ℕ
owner_of_session None row column = 0
owner_of_session (Some inner) row column = owner_of_stage inner.stage row column

-- The key of that owner. No key if the session is closed.
abbrev pub key_of_session : Option OpenSession → ℕ → ℕ → Key
key_of_session None row column = no_key
key_of_session (Some inner) row column = key_of_stage inner.stage row column

-- ---- the selection

-- The key of the selected item of a session that waits for an event.
abbrev pub selected_of_stage : Stage → Option Key
selected_of_stage (Building state) = None
selected_of_stage (Waiting s) = Some (key_of_item (live_of s).session.shown.selection)
selected_of_stage (Editing a) = None
selected_of_stage (Accepted state) = None
selected_of_stage (Ended error) = None

-- The key of the selected item of a session. None unless it is open and waits for an event.
abbrev pub selected_of_session : Option OpenSession → Option Key
selected_of_session None = None
selected_of_session (Some inner) = selected_of_stage inner.stage
