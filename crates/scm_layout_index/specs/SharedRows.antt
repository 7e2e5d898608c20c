-- Rows that a session and its frames share.
use Rattle.std.specs.Prelude.{◌≡◌, ◌≤◌, List}
use Rattle.scm_types.specs.declared.keys.SelectionKey.{SelectionKey}
use Rattle.scm_types.specs.declared.state.RecordState.{RecordState}
use Rattle.scm_types.specs.Limits.{max_items, state_size}
use Rattle.scm_layout.specs.declared.state_rows.StateRows.{StateRows}
use Rattle.scm_layout.specs.Layouts.{files_top}
use Rattle.scm_layout.specs.Rows.{rows_of}

-- the rows are those of the layout of a state within the limit of its size
pub record AreRowsOfState (rows : StateRows) : Type 0 where
  pub state : RecordState
  -- the keys that are unfolded
  pub expanded : List SelectionKey
  pub is_it : rows ≡ rows_of expanded 0 (files_top state.commits) state.files
  pub size : state_size state ≤ max_items
