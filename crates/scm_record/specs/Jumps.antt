-- Jumps: a key is selected at once, as moves of the selection would select it.
use Rattle.std.specs.Prelude.{ℕ, Bool, not, ◌&&◌, List, ◌∷◌, if◌then◌else◌}
use Rattle.scm_types.specs.declared.keys.SelectionKey.{SelectionKey}
use Rattle.scm_input.specs.declared.events.Event.{Event}
use Rattle.scm_input.specs.Script.{Read, Batch, Reply}
use Rattle.scm_selection.specs.KeysAround.{is_key_of}
use Rattle.scm_record.specs.Session.{after_frame, after_select}
use Rattle.scm_record.specs.Dialogs.{is_quit_dialog_open}
use Rattle.scm_record.specs.Quiet.{after_ensure}
use Rattle.scm_record.specs.Live.{Live}
use Rattle.scm_record.specs.LiveCalls.{Leads, waiting_point}
use Rattle.scm_record.specs.declared.live.Turn.TheVariants.{Waiting}

-- the live session `l` with `key` selected and drawn: the file and the section that contain it are expanded, and the screen shows it
abbrev pub after_jump : Live → SelectionKey → Live
after_jump l key = record {
  session = after_frame (after_ensure l.kind (after_frame (after_select l.session key)));
  kind = l.kind;
}

-- whether `key` can be selected at once: the quit dialog is closed, and the state has the key
abbrev pub can_select : Live → SelectionKey → Bool
can_select l key = not (is_quit_dialog_open l.session) && is_key_of l.session.shown.state.files key

-- the live session `l` with `key` selected, or as it is if the key cannot be selected
abbrev pub after_selecting : Live → SelectionKey → Live
after_selecting l key = if can_select l key then after_jump l key else l

-- `moves`, as one read, lead from `l` to the session with `key` selected
abbrev pub LeadToKey : Live → SelectionKey → List Event → Type 0
LeadToKey l key moves =
    (reads : List Read) (edits : List Reply) (frames : ℕ)
    → Leads (waiting_point l (Batch moves ∷ reads) edits frames) l.kind reads edits (Waiting (after_jump l key))
