-- A session that waits for an event or for a message, with or without a layer over it.
use Rattle.std.specs.Prelude.{ℕ, Bool, true, false}
use Rattle.scm_record.specs.Live.{Live, LiveEdit}
use Rattle.scm_front_paint.specs.Pane.{offset}
use Rattle.scm_open_session.specs.declared.running.Running.{Running}
use Rattle.scm_open_session.specs.declared.running.Running.TheVariants as running
use Rattle.scm_open_session.specs.declared.running.MessageEdit.{MessageEdit}
use Rattle.scm_open_session.specs.declared.running.MessageEdit.TheVariants as edits

-- The live session: the one beneath the layer, if there is a layer.
abbrev pub live_of : Running → Live
live_of (running.Plain l) = l
live_of (running.Layered v) = v.front.beneath

-- How many columns of its window are to the left of the terminal.
abbrev pub offset_of : Running → ℕ
offset_of (running.Plain l) = 0
offset_of (running.Layered v) = offset v.pane v.front.beneath

-- Whether it has a layer.
abbrev pub is_layered : Running → Bool
is_layered (running.Plain l) = false
is_layered (running.Layered v) = true

-- Whether its layer asks for a text.
abbrev pub is_asking : Running → Bool
is_asking (running.Plain l) = false
is_asking (running.Layered v) = v.front.query.is_asking

-- The live session that waits for a message.
abbrev pub edit_of : MessageEdit → LiveEdit
edit_of (edits.Plain a) = a
edit_of (edits.Layered v) = v.beneath.beneath

-- Whether it has a layer.
abbrev pub is_edit_layered : MessageEdit → Bool
is_edit_layered (edits.Plain a) = false
is_edit_layered (edits.Layered v) = true
