-- The session that the fields of the code's `ActiveSession` represent, the layout that it keeps, and the session with other expanded keys.
use Rattle.std.specs.Prelude.{◌≡◌, ◌≤◌, List}
use Rattle.scm_types.specs.declared.keys.SelectionKey.{SelectionKey}
use Rattle.scm_types.specs.Limits.{max_items, state_size}
use Rattle.scm_layout.specs.Layouts.{layout_of}
use Rattle.scm_layout_index.specs.FrameRows.{FitRows}
use Rattle.scm_record.specs.Session.{Session}
use Rattle.scm_record.specs.declared.session.ActiveSession.TheInside.{Inside}

-- the session of these fields
abbrev pub session_of : Inside → Session
session_of r = record {
  shown = r.view_state;
  scroll = r.scroll;
  cleared = r.cleared;
  pending = r.pending.items;
}

-- the session with these expanded keys
abbrev pub with_expanded : Session → List SelectionKey → Session
with_expanded s expanded = record s { shown = record s.shown { expanded = expanded } }

-- the layout is that of the state, with the expanded keys unfolded; it is known how the rows that frames share differ from those of the
-- layout; the state is within the limit of its size
pub record HasLayout (r : Inside) : Type 0 where
  pub layout : r.layout ≡ layout_of r.view_state.state r.view_state.expanded
  pub shared : FitRows r.frame_rows r.layout.rows
  pub size : state_size r.view_state.state ≤ max_items
