-- The value of a session, and the session after each action of the user on the document.
use Rattle.std.specs.Prelude.{ℕ, ◌==◌, ◌≤◌, IsTrue, Bool, true, false, ◌&&◌, List, [], ◌∷◌, ◌++◌, filter, Option, Some, None, option_and_then, slice_get, if◌then◌else◌}
use Rattle.std.specs.Option.{unwrap_or}
use Rattle.scm_types.specs.declared.state.Commit.{Commit}
use Rattle.scm_types.specs.declared.file.File.{File}
use Rattle.scm_types.specs.declared.state.RecordState.{RecordState}
use Rattle.scm_types.specs.Edits.{modify}
use Rattle.scm_types.specs.Limits.{is_accepted_state, max_scroll}
use Rattle.scm_types.specs.declared.keys.SelectionKey.{SelectionKey}
use Rattle.scm_types.specs.declared.keys.SelectionKey.TheVariants as keys
use Rattle.scm_overlay.specs.declared.quit_dialog.QuitDialog.{QuitDialog}
use Rattle.scm_document.specs.declared.commit_view.CommitViewMode.{CommitViewMode}
use Rattle.scm_document.specs.declared.commit_view.CommitViewMode.TheVariants.{Inline, Adjacent}
use Rattle.scm_view.specs.ViewState.{ViewState}
use Rattle.scm_view_state.specs.ViewState.{new_view_state}
use Rattle.scm_input.specs.declared.events.Event.{Event}
use Rattle.scm_input.specs.declared.events.Event.TheVariants as events
use Rattle.scm_types.specs.Keys.{file_of, file_of_section, file_of_line, section_of_line}
use Rattle.scm_selection.specs.KeyLists.{all_keys, visible_keys, first_key, is_section}
use Rattle.scm_selection.specs.KeySet.{has_key, is_same_set, with_key, without_key, with_key_flipped, key_set}
use Rattle.scm_selection.specs.Moves.{next_key, previous_key, inner_key, of_kind}
use Rattle.scm_record.specs.declared.pages.Way.{Way}
use Rattle.scm_record.specs.declared.pages.Way.TheVariants.{Up, Down}
use Rattle.scm_selection.specs.Toggle.{with_key_toggled, with_all_inverted, with_all_set}

-- A session as a value. The code keeps it as an `ActiveSession`; a `Scene` is what was last drawn of one.
pub record Session : Type 0 where
  -- the view state: the state, the selection, the expanded keys and what is open
  pub shown : ViewState
  -- the row of the document that the screen's first row shows, counted from 0
  pub scroll : ℕ
  -- whether the screen was cleared since the last frame
  pub cleared : Bool
  -- the events to handle after the next frame, in order
  pub pending : List Event

-- the session can be drawn: its state is within the limits, and so is its scroll
pub record IsDrawable (s : Session) : Type 0 where
  pub accepted : IsTrue (is_accepted_state s.shown.state)
  pub scroll : s.scroll ≤ max_scroll

-- ---- the beginning

-- a commit without a message
abbrev pub no_message : Commit
no_message = record { message = None }

-- the commits, with commits without a message added up to two
abbrev pub padded_commits : List Commit → List Commit
padded_commits [] = no_message ∷ no_message ∷ []
padded_commits (first ∷ []) = first ∷ no_message ∷ []
padded_commits (first ∷ second ∷ rest) = first ∷ second ∷ rest

-- the state with its commits added up to two
abbrev pub padded_state : RecordState → RecordState
padded_state state = record state { commits = padded_commits state.commits }

-- the first session of a state: the first file is selected, and all sections are expanded
abbrev pub start : RecordState → Session
start state = record {
  shown = new_view_state (padded_state state) (first_key state.files) (key_set (filter is_section (all_keys state.files)));
  scroll = 0;
  cleared = false;
  pending = [];
}

-- ---- parts that change alone

-- the session with `event` added to the pending events
abbrev pub with_pushed : Session → Event → Session
with_pushed s event = record s { pending = s.pending ++ event ∷ [] }

-- the session that scrolls to its selection after the next frame
abbrev pub with_ensure : Session → Session
with_ensure s = with_pushed s events.EnsureSelectionInViewport

-- the session without pending events
abbrev pub without_pending : Session → Session
without_pending s = record s { pending = [] }

-- the session with another quit dialog, or with none
abbrev pub with_dialog : Session → Option QuitDialog → Session
with_dialog s dialog = record s { shown = record s.shown { quit_dialog = dialog } }

-- the session with the help open or closed
abbrev pub with_help : Session → Bool → Session
with_help s is_open = record s { shown = record s.shown { is_help_open = is_open } }

-- the session with the menu of this index open, or with none
abbrev pub with_menu : Session → Option ℕ → Session
with_menu s menu = record s { shown = record s.shown { open_menu = menu } }

-- the open menu after a click on the title of `menu`: `menu`, or none if it was open
abbrev pub menu_after_click : ℕ → Option ℕ → Option ℕ
menu_after_click menu None = Some menu
menu_after_click menu (Some other) = if menu == other then None else Some menu

-- the session after a click on the title of `menu`
abbrev pub after_menu : Session → ℕ → Session
after_menu s menu = with_menu s (menu_after_click menu s.shown.open_menu)

-- the session after a click on a menu item: the menu is closed, and the item's event is pending, if it has one
abbrev pub after_item : Session → Option Event → Session
after_item s None = with_menu s None
after_item s (Some event) = with_pushed (with_menu s None) event

-- the other view mode
abbrev pub other_mode : CommitViewMode → CommitViewMode
other_mode Inline = Adjacent
other_mode Adjacent = Inline

-- the session in the other view mode
abbrev pub in_other_mode : Session → Session
in_other_mode s = record s { shown = record s.shown { view_mode = other_mode s.shown.view_mode } }

-- the session with another scroll
abbrev pub with_scroll : Session → ℕ → Session
with_scroll s scroll = record s { scroll = scroll }

-- the session after a `Redraw`: the screen is cleared
abbrev pub after_redraw : Session → Session
after_redraw s = record s { cleared = true }

-- the session after a frame is drawn: the screen is no longer cleared
abbrev pub after_frame : Session → Session
after_frame s = record s { cleared = false }

-- ---- moves

-- the visible keys, in order
abbrev pub visible : Session → List SelectionKey
visible s = visible_keys (has_key s.shown.expanded) s.shown.state.files

-- the visible keys of the selection's kind, in order
abbrev pub visible_of_kind : Session → List SelectionKey
visible_of_kind s = of_kind (visible s) s.shown.selection

-- the expanded keys with the file and the section that contain the key
abbrev pub with_keys_above : List SelectionKey → SelectionKey → List SelectionKey
with_keys_above expanded keys.None = expanded
with_keys_above expanded (keys.File key) = expanded
with_keys_above expanded (keys.Section key) = with_key expanded (keys.File (file_of_section key))
with_keys_above expanded (keys.Line key) = with_key (with_key expanded (keys.File (file_of_line key))) (keys.Section (section_of_line key))

-- the session with `key` selected, and the file and the section that contain it expanded
abbrev pub at_key : Session → SelectionKey → Session
at_key s key = record s { shown = record s.shown { selection = key; expanded = with_keys_above s.shown.expanded key } }

-- the session with `key` selected by the keyboard: it also scrolls to `key` after the next frame
abbrev pub after_select : Session → SelectionKey → Session
after_select s key = with_ensure (at_key s key)

-- the key next to the selection in `list`, in direction `way`; the first file if the selection isn't in `list`
abbrev pub neighbour : Way → List SelectionKey → Session → SelectionKey
neighbour Up list s = previous_key list s.shown.selection (first_key s.shown.state.files)
neighbour Down list s = next_key list s.shown.selection (first_key s.shown.state.files)

-- the session after that key is selected
abbrev pub after_move : Way → List SelectionKey → Session → Session
after_move way list s = after_select s (neighbour way list s)

-- the session with the next visible key of the selection's kind selected, or nothing if the selection isn't visible
abbrev pub after_advance : Session → Session
after_advance s = after_select s (next_key (visible_of_kind s) s.shown.selection keys.None)

-- the session with the first key inside the selection selected
abbrev pub after_inner : Session → Session
after_inner s = after_select s (inner_key (all_keys s.shown.state.files) s.shown.selection)

-- ---- folds

-- the session with `key` folded
abbrev pub after_fold : Session → SelectionKey → Session
after_fold s key = with_ensure (record s { shown = record s.shown { expanded = without_key s.shown.expanded key } })

-- the session after the selection moves out of a key: a file is folded, a section is folded or left for its file, a line is left
-- for its section
abbrev pub after_leaving : Session → Bool → SelectionKey → Session
after_leaving s fold_section keys.None = s
after_leaving s fold_section (keys.File key) = after_fold s (keys.File key)
after_leaving s fold_section (keys.Section key) =
    if fold_section && has_key s.shown.expanded (keys.Section key)
    then after_fold s (keys.Section key)
    else after_select s (keys.File (file_of_section key))
after_leaving s fold_section (keys.Line key) = after_select s (keys.Section (section_of_line key))

-- the session after the selection moves out of what is selected
abbrev pub after_outer : Session → Bool → Session
after_outer s fold_section = after_leaving s fold_section s.shown.selection

-- the expanded keys with the fold of a file or a section flipped; a line has no fold
abbrev pub with_fold_flipped : List SelectionKey → SelectionKey → List SelectionKey
with_fold_flipped expanded keys.None = expanded
with_fold_flipped expanded (keys.File key) = with_key_flipped expanded (keys.File key)
with_fold_flipped expanded (keys.Section key) = with_key_flipped expanded (keys.Section key)
with_fold_flipped expanded (keys.Line key) = expanded

-- the session with the fold of the selection flipped
abbrev pub after_expand : Session → Session
after_expand s = with_ensure (record s { shown = record s.shown { expanded = with_fold_flipped s.shown.expanded s.shown.selection } })

-- if exactly all keys are expanded, everything is folded and the selection's file is selected; otherwise all keys are expanded
abbrev pub with_all_flipped : Session → Session
with_all_flipped s =
    if is_same_set s.shown.expanded (key_set (all_keys s.shown.state.files))
    then record s { shown = record s.shown { selection = file_of s.shown.selection; expanded = [] } }
    else record s { shown = record s.shown { expanded = key_set (all_keys s.shown.state.files) } }

-- the session after the folds of all keys are flipped
abbrev pub after_expand_all : Session → Session
after_expand_all s = with_ensure (with_all_flipped s)

-- ---- marks and messages

-- the session with its files changed by `change`; no change if the state is read-only
abbrev pub with_files_changed : (List File → List File) → Session → Session
with_files_changed change s =
    if s.shown.state.is_read_only then s
    else record s { shown = record s.shown { state = record s.shown.state { files = change s.shown.state.files } } }

-- the session with the selected item toggled
abbrev pub after_toggle : Session → Session
after_toggle s = with_files_changed (with_key_toggled s.shown.selection) s

-- the session with the check of every item inverted
abbrev pub after_toggle_all : Session → Session
after_toggle_all s = with_files_changed with_all_inverted s

-- the session with every item unchecked if all were checked; otherwise with every item checked
abbrev pub after_toggle_all_uniform : Session → Session
after_toggle_all_uniform s = with_files_changed with_all_set s

-- the message of the commit at index `i`, if it has one
abbrev pub message_of : Session → ℕ → Option (List ℕ)
message_of s i = option_and_then (λ (c : Commit). c.message) (slice_get s.shown.state.commits i)

-- the message of the commit at index `i`, or an empty text if it has none
abbrev pub message_text : Session → ℕ → List ℕ
message_text s i = unwrap_or (message_of s i) []

-- the commit with the message `text`
abbrev pub commit_with_message : List ℕ → Commit → Commit
commit_with_message text c = record c { message = Some text }

-- the session with `text` as the message of the commit at index `i`
abbrev pub with_message : Session → ℕ → List ℕ → Session
with_message s i text = record s {
  shown = record s.shown {
    state = record s.shown.state { commits = modify (commit_with_message text) s.shown.state.commits i };
  };
}
