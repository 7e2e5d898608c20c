-- How a call selects an item.
use Rattle.std.specs.Prelude.{◌≡◌, ℕ, Bool, Option, Some, None, if◌then◌else◌}
use Rattle.scm_errors.specs.declared.error.RecordError.TheVariants.{OutOfMemory}
use Rattle.scm_types.specs.declared.keys.SelectionKey.{SelectionKey}
use Rattle.scm_front.specs.declared.starting.Folds.TheVariants as folds
use Rattle.scm_record.specs.Jumps.{after_selecting, can_select}
use Rattle.scm_record.specs.Live.{Live}
use Rattle.scm_open_session.specs.declared.open_session.OpenSession.{OpenSession}
use Rattle.scm_open_session.specs.declared.open_session.Stage.{Stage}
use Rattle.scm_open_session.specs.declared.open_session.Stage.TheVariants.{Building, Waiting, Editing, Accepted, Ended}
use Rattle.scm_open_session.specs.declared.running.Running.TheVariants as running
use Rattle.scm_open_session.specs.LayerCalls.{SetsStart}
use Rattle.scm_open_session.specs.Running.{live_of}

-- The code of a jump of a session that waits for an event: 9 if the key names nothing that can be selected now.
abbrev pub code_if_selectable : Bool → ℕ
code_if_selectable can = if can then 0 else 9

-- The code of the call at a stage.
abbrev pub code_of_select_at : SelectionKey → Stage → ℕ
code_of_select_at key (Building state) = 2
code_of_select_at key (Waiting s) = code_if_selectable (can_select (live_of s) key)
code_of_select_at key (Editing a) = 2
code_of_select_at key (Accepted state) = 2
code_of_select_at key (Ended error) = 2

-- The code of the call on a session.
abbrev pub code_of_select : SelectionKey → Option OpenSession → ℕ
code_of_select key None = 1
code_of_select key (Some inner) = code_of_select_at key inner.stage

-- The item is selected: in a session without a layer as `LiveSession::select` does, in one with a layer as at its start, with the
-- folds as they are. Or an allocation failed.
pub data Selects (key : SelectionKey) : Stage → Stage → Type 0 where
  selected : {l : Live} → Selects key (Waiting (running.Plain l)) (Waiting (running.Plain (after_selecting l key)))
  failed : {l : Live} → Selects key (Waiting (running.Plain l)) (Ended OutOfMemory)
  layered : {old new : Stage} → SetsStart folds.AsIs key old new → Selects key old new
