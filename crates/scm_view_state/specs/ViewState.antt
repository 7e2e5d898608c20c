-- The first view state of a state.
use Rattle.std.specs.Prelude.{List, None, false}
use Rattle.scm_types.specs.declared.state.RecordState.{RecordState}
use Rattle.scm_types.specs.declared.keys.SelectionKey.{SelectionKey}
use Rattle.scm_document.specs.declared.commit_view.CommitViewMode.TheVariants.{Inline}
use Rattle.scm_view.specs.ViewState.{ViewState}

-- the view state with one commit shown, and no menu and no dialog open
abbrev pub new_view_state : RecordState → SelectionKey → List SelectionKey → ViewState
new_view_state state selection expanded = record {
  state = state;
  selection = selection;
  expanded = expanded;
  view_mode = Inline;
  open_menu = None;
  quit_dialog = None;
  is_help_open = false;
}
