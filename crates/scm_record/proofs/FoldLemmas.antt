-- The expanded keys of a session are in ascending order, whatever it handles.
use Rattle.std.proofs.Common.{ℕ, ◌+◌, ◌-◌, Bool, true, false, cond, ◌&&◌, List, [], ◌∷◌, length, nat_eq, Option, Some, None}
use Rattle.std.specs.Prelude.{filter, is_some, nat_lt, option_map}
use Rattle.scm_types.specs.Limits.{is_short_text}
use Rattle.scm_types.specs.declared.file.File.{File}
use Rattle.scm_types.specs.declared.keys.SelectionKey.{SelectionKey}
use Rattle.scm_types.specs.declared.keys.SelectionKey.TheVariants as keys
use Rattle.scm_types.specs.declared.state.RecordState.{RecordState}
use Rattle.scm_types.specs.Keys.{file_of, file_of_section, file_of_line, section_of_line}
use Rattle.scm_widgets.specs.declared.ids.ComponentId.{ComponentId}
use Rattle.scm_widgets.specs.declared.ids.ComponentId.TheVariants as ids
use Rattle.scm_widgets.specs.declared.ids.QuitDialogButtonId.{QuitDialogButtonId}
use Rattle.scm_widgets.specs.declared.ids.QuitDialogButtonId.TheVariants.{Quit, GoBack}
use Rattle.scm_input.specs.declared.events.Event.{Event}
use Rattle.scm_input.specs.declared.events.Event.TheVariants as events
use Rattle.scm_input.specs.Script.{Read, Batch, BrokenRead, Edit, Answer, BrokenEdit, Reply, no_messages_left}
use Rattle.scm_selection.specs.Counts.{message_count, changed_count}
use Rattle.scm_selection.specs.KeyLists.{all_keys, is_section}
use Rattle.scm_selection.specs.KeySet.{has_key, with_key, key_set, is_key, is_same_set}
use Rattle.scm_selection.specs.Moves.{next_key, inner_key}
use Rattle.scm_selection.specs.Toggle.{with_key_toggled, with_all_inverted, with_all_set}
use Rattle.scm_record.specs.declared.pages.Way.TheVariants.{Up, Down}
use Rattle.scm_record.specs.declared.session.Flow.{Flow}
use Rattle.scm_record.specs.declared.session.Flow.TheVariants as flows
use Rattle.scm_record.specs.Session.{Session, start, at_key, after_select, after_fold, after_leaving, after_outer, after_inner, after_advance, after_item, after_expand, after_expand_all, after_toggle, after_toggle_all, after_toggle_all_uniform, message_of, message_text, neighbour, visible, visible_of_kind, with_all_flipped, with_dialog, with_fold_flipped, with_help, with_keys_above, with_message, with_pushed}
use Rattle.scm_record.specs.Frames.{Scene, scene_of}
use Rattle.scm_record.specs.FrameQueries.{shot_of, hit}
use Rattle.scm_record.specs.Change.{Change, stays, accepts, cancels}
use Rattle.scm_record.specs.Clicks.{item_event, after_click_on, after_click}
use Rattle.scm_record.specs.Dialogs.{after_press, button_of, with_focus, new_quit_dialog, after_quit_request, unless_quit_dialog_open, help_closed_or, dialog_closed_or, dialog_focused_or, dialog_pressed_or}
use Rattle.scm_record.specs.Messages.{edit_if, after_edit_request}
use Rattle.scm_record.specs.Pages.{after_scroll, page_key, towards}
use Rattle.scm_record.specs.Step.{change}
use Rattle.scm_record.specs.Run.{World, with_session, with_edits, with_text, Goes, Breaks, no_such_place, too_long, after_answer, after_edit, outcome_by, Point, Before, Drawn, Within, Accepted, Failed, resume, next_read, batch, after, Reaches, here, on, world_at}
use Rattle.scm_selection.proofs.KeyOrderLemmas.{Ascends, with-ascends, without-ascends, flipped-ascends, set-ascends}

abbrev pub IsFine : Session → Type 0
IsFine s = Ascends s.shown.expanded

abbrev Fine : Change → Type 0
Fine c = IsFine c.session

either : (b : Bool) (c d : Change) → Fine c → Fine d → Fine (cond b c d)
either true c d h g = h
either false c d h g = g

either-session : (b : Bool) (s t : Session) → IsFine s → IsFine t → IsFine (cond b s t)
either-session true s t h g = h
either-session false s t h g = g

above-fine : (e : List SelectionKey) (key : SelectionKey) → Ascends e → Ascends (with_keys_above e key)
above-fine e keys.None h = h
above-fine e (keys.File k) h = h
above-fine e (keys.Section k) h = with-ascends e (keys.File (file_of_section k)) h
above-fine e (keys.Line k) h =
    with-ascends (with_key e (keys.File (file_of_line k))) (keys.Section (section_of_line k)) (with-ascends e (keys.File (file_of_line k)) h)

flip-fine : (e : List SelectionKey) (key : SelectionKey) → Ascends e → Ascends (with_fold_flipped e key)
flip-fine e keys.None h = h
flip-fine e (keys.File k) h = flipped-ascends e (keys.File k) h
flip-fine e (keys.Section k) h = flipped-ascends e (keys.Section k) h
flip-fine e (keys.Line k) h = h

all-fine : (s : Session) → IsFine s → IsFine (with_all_flipped s)
all-fine s h =
    flipped (is_same_set s.shown.expanded (key_set (all_keys s.shown.state.files)))
  where
    flipped : (b : Bool) → IsFine (cond b (record s { shown = record s.shown { selection = file_of s.shown.selection; expanded = [] } }) (record s { shown = record s.shown { expanded = key_set (all_keys s.shown.state.files) } }))
    flipped true = tt
    flipped false = set-ascends (all_keys s.shown.state.files)

leaving-fine : (s : Session) (fold_section : Bool) (key : SelectionKey) → IsFine s → IsFine (after_leaving s fold_section key)
leaving-fine s fold_section keys.None h = h
leaving-fine s fold_section (keys.File k) h = without-ascends s.shown.expanded (keys.File k) h
leaving-fine s fold_section (keys.Section k) h =
    either-session (fold_section && has_key s.shown.expanded (keys.Section k)) (after_fold s (keys.Section k)) (after_select s (keys.File (file_of_section k)))
    (without-ascends s.shown.expanded (keys.Section k) h) (above-fine s.shown.expanded (keys.File (file_of_section k)) h)
leaving-fine s fold_section (keys.Line k) h = above-fine s.shown.expanded (keys.Section (section_of_line k)) h

-- marks change no fold
changed-fine : (read_only : Bool) (s : Session) (f : List File → List File) → IsFine s
    → IsFine (cond read_only s (record s { shown = record s.shown { state = record s.shown.state { files = f s.shown.state.files } } }))
changed-fine true s f h = h
changed-fine false s f h = h

toggled-fine : (s : Session) → IsFine s → IsFine (after_toggle s)
toggled-fine s h = changed-fine s.shown.state.is_read_only s (with_key_toggled s.shown.selection) h

press-fine : (s : Session) (button : QuitDialogButtonId) → IsFine s → Fine (after_press s button)
press-fine s Quit h = h
press-fine s GoBack h = h

edit-fine : (s : Session) (commit : ℕ) (message : Option (List ℕ)) → IsFine s → Fine (edit_if commit s message)
edit-fine s commit None h = h
edit-fine s commit (Some text) h = h

item-fine : (s : Session) (event : Option Event) → IsFine s → IsFine (after_item s event)
item-fine s None h = h
item-fine s (Some event) h = h

quit-fine : (s : Session) → IsFine s → Fine (after_quit_request s)
quit-fine s h =
    either (nat_eq (message_count s.shown.state) 0 && nat_eq (changed_count s.shown.state) 0) (cancels s)
    (stays (with_dialog s (Some (new_quit_dialog (message_count s.shown.state) (changed_count s.shown.state))))) h h

click-fine : (menu : Option ℕ) (s : Session) (id : ComponentId) → IsFine s → Fine (after_click_on menu s id)
click-fine menu s (ids.ToggleBox key) h = either-session (is_key key s.shown.selection) (after_toggle s) (at_key s key) (toggled-fine s h) (above-fine s.shown.expanded key h)
click-fine menu s (ids.ExpandBox key) h =
    either-session (is_key key s.shown.selection) (after_expand s) (at_key s key) (flip-fine s.shown.expanded s.shown.selection h) (above-fine s.shown.expanded key h)
click-fine menu s (ids.FileViewHeader key) h = h
click-fine menu s (ids.SelectableItem key) h = above-fine s.shown.expanded key h
click-fine menu s (ids.CommitEditMessageButton commit) h = edit-fine (with_pushed s events.Redraw) commit (message_of s commit) h
click-fine menu s ids.MenuBar h = h
click-fine menu s (ids.Menu other) h = h
click-fine menu s (ids.MenuItem item) h = item-fine s (item_event menu item) h
click-fine menu s (ids.QuitDialogButton button) h = press-fine s button h
click-fine menu s ids.HelpDialogQuitButton h = h
click-fine menu s ids.QuitDialog h = h
click-fine menu s ids.HelpDialog h = h
click-fine menu s ids.App h = h
click-fine menu s ids.AppFiles h = h
click-fine menu s ids.MenuHeader h = h
click-fine menu s ids.CommitMessageView h = h

clicked-fine : (menu : Option ℕ) (s : Session) (id : Option ComponentId) → IsFine s → Fine (after_click menu s id)
clicked-fine menu s None h = h
clicked-fine menu s (Some id) h = click-fine menu s id h

-- ---- events for an open dialog first

module _ (s : Session) (h : IsFine s) where
  unless : (c : Change) → Fine c → Fine (unless_quit_dialog_open s c)
  unless c g = either (is_some s.shown.quit_dialog) (stays s) c h g

  helped : (c : Change) → Fine c → Fine (help_closed_or s c)
  helped c g = either s.shown.is_help_open (stays (with_help s false)) c h g

  closed : (c : Change) → Fine c → Fine (dialog_closed_or s c)
  closed c g = either (is_some s.shown.quit_dialog) (stays (with_dialog s None)) c h g

  focused : (button : QuitDialogButtonId) (c : Change) → Fine c → Fine (dialog_focused_or s button c)
  focused button c g = either (is_some s.shown.quit_dialog) (stays (with_dialog s (option_map (with_focus button) s.shown.quit_dialog))) c h g

  pressed : (c : Change) → Fine c → Fine (dialog_pressed_or s c)
  pressed c g = either (is_some s.shown.quit_dialog) (after_press s (button_of s.shown.quit_dialog)) c (press-fine s (button_of s.shown.quit_dialog) h) g

  moves : (key : SelectionKey) → Fine (unless_quit_dialog_open s (stays (after_select s key)))
  moves key = unless (stays (after_select s key)) (above-fine s.shown.expanded key h)

  advances : IsFine (after_advance (after_toggle s))
  advances = above-fine (after_toggle s).shown.expanded (next_key (visible_of_kind (after_toggle s)) (after_toggle s).shown.selection keys.None) (toggled-fine s h)

-- every event keeps the expanded keys in order
pub change-fine : (scene : Scene) (s : Session) (event : Event) → IsFine s → Fine (change scene s event)
change-fine scene s events.None h = h
change-fine scene s events.Redraw h = h
change-fine scene s events.EnsureSelectionInViewport h = h
change-fine scene s (events.TakeScreenshot shot) h = h
change-fine scene s (events.Click row column) h = clicked-fine scene.open_menu s (hit scene s.scroll row column) h
change-fine scene s events.ToggleCommitViewMode h = h
change-fine scene s events.Help h = h
change-fine scene s events.QuitEscape h = helped s h (stays (with_dialog s None)) h
change-fine scene s events.QuitCancel h = helped s h (dialog_closed_or s (after_quit_request s)) (closed s h (after_quit_request s) (quit-fine s h))
change-fine scene s events.ToggleItem h = helped s h (dialog_pressed_or s (stays (after_toggle s))) (pressed s h (stays (after_toggle s)) (toggled-fine s h))
change-fine scene s events.ToggleItemAndAdvance h =
    helped s h (dialog_pressed_or s (stays (after_advance (after_toggle s)))) (pressed s h (stays (after_advance (after_toggle s))) (advances s h))
change-fine scene s events.QuitAccept h = unless s h (help_closed_or s (accepts s)) (helped s h (accepts s) h)
change-fine scene s events.QuitInterrupt h = either (is_some s.shown.quit_dialog) (cancels s) (after_quit_request s) h (quit-fine s h)
change-fine scene s events.FocusInner h =
    focused s h Quit (stays (after_inner s)) (above-fine s.shown.expanded (inner_key (all_keys s.shown.state.files) s.shown.selection) h)
change-fine scene s (events.FocusOuter fold_section) h = focused s h GoBack (stays (after_outer s fold_section)) (leaving-fine s fold_section s.shown.selection h)
change-fine scene s events.ScrollUp h = unless s h (stays (after_scroll scene s (s.scroll - 1))) h
change-fine scene s events.ScrollDown h = unless s h (stays (after_scroll scene s (s.scroll + 1))) h
change-fine scene s events.PageUp h = unless s h (stays (after_scroll scene s (s.scroll - scene.height))) h
change-fine scene s events.PageDown h = unless s h (stays (after_scroll scene s (s.scroll + scene.height))) h
change-fine scene s events.FocusPrev h = moves s h (neighbour Up (visible s) s)
change-fine scene s events.FocusPrevSameKind h = moves s h (neighbour Up (visible_of_kind s) s)
change-fine scene s events.FocusPrevPage h = moves s h (page_key scene Up (towards Up (visible s)) s.shown.selection)
change-fine scene s events.FocusNext h = moves s h (neighbour Down (visible s) s)
change-fine scene s events.FocusNextSameKind h = moves s h (neighbour Down (visible_of_kind s) s)
change-fine scene s events.FocusNextPage h = moves s h (page_key scene Down (towards Down (visible s)) s.shown.selection)
change-fine scene s events.ToggleAll h = unless s h (stays (after_toggle_all s)) (changed-fine s.shown.state.is_read_only s with_all_inverted h)
change-fine scene s events.ToggleAllUniform h = unless s h (stays (after_toggle_all_uniform s)) (changed-fine s.shown.state.is_read_only s with_all_set h)
change-fine scene s events.ExpandItem h = unless s h (stays (after_expand s)) (flip-fine s.shown.expanded s.shown.selection h)
change-fine scene s events.ExpandAll h = unless s h (stays (after_expand_all s)) (all-fine s h)
change-fine scene s events.EditCommitMessage h = unless s h (after_edit_request s 0) (edit-fine (with_pushed s events.Redraw) 0 (message_of s 0) h)

-- ---- and every step of a run

abbrev FineAt : Point → Type 0
FineAt p = IsFine (world_at p).session

module _ (drawn : Session) (rest : List Event) where
  short-fine : (b : Bool) (w : World) (commit : ℕ) (text : List ℕ) → IsFine w.session → FineAt (resume drawn rest (cond b (Goes (with_session w (with_message w.session commit text))) (Breaks too_long w)))
  short-fine true w commit text h = h
  short-fine false w commit text h = h

  answered-fine : (w : World) (commit : ℕ) (edit : Edit) → IsFine w.session → FineAt (resume drawn rest (after_answer w commit edit))
  answered-fine w commit (Answer text) h = short-fine (is_short_text text) w commit text h
  answered-fine w commit (BrokenEdit fault) h = h

  pub edited-fine : (w : World) (commit : ℕ) (edits : List Reply) → IsFine w.session → FineAt (resume drawn rest (after_edit w commit edits))
  edited-fine w commit [] h = answered-fine (with_edits w []) commit no_messages_left h
  edited-fine w commit (reply ∷ edits) h = answered-fine (with_edits w edits) commit (reply (message_text w.session commit)) h

  shot-fine : (b : Bool) (w : World) (place : ℕ) (text : List ℕ) → IsFine w.session → FineAt (resume drawn rest (cond b (Goes (with_text w place text)) (Breaks no_such_place w)))
  shot-fine true w place text h = h
  shot-fine false w place text h = h

  outcome-fine : (scene : Scene) (w : World) (flow : Flow) → IsFine w.session → FineAt (resume drawn rest (outcome_by scene w flow))
  outcome-fine scene w flows.GoOn h = h
  outcome-fine scene w flows.Accept h = h
  outcome-fine scene w flows.Cancel h = h
  outcome-fine scene w (flows.Edit commit) h = edited-fine w commit w.edits h
  outcome-fine scene w (flows.Shoot place) h = shot-fine (nat_lt place (length w.texts)) w place (shot_of scene w.session.cleared) h

read-fine : (w : World) (reads : List Read) → IsFine w.session → FineAt (next_read w reads)
read-fine w [] h = h
read-fine w (Batch list ∷ reads) h = h
read-fine w (BrokenRead fault ∷ reads) h = h

batch-fine : (w : World) (pending : List Event) → IsFine w.session → FineAt (batch w pending)
batch-fine w [] h = read-fine w w.reads h
batch-fine w (event ∷ rest) h = h

after-fine : (p : Point) → FineAt p → FineAt (after p)
after-fine (Before w) h = h
after-fine (Drawn w) h = batch-fine w w.session.pending h
after-fine (Within drawn w []) h = h
after-fine (Within drawn w (event ∷ rest)) h =
    let scene = scene_of w.kind drawn in
    let c = change scene w.session event in
    outcome-fine drawn rest scene (with_session w c.session) c.flow (change-fine scene w.session event h)
after-fine (Accepted w) h = h
after-fine (Failed fault w) h = h

-- what is reached keeps them in order
pub reaches-fine : {p q : Point} → Reaches p q → FineAt p → FineAt q
reaches-fine here h = h
reaches-fine (on {q = q} r) h = after-fine q (reaches-fine r h)

-- a session begins with them in order
pub start-fine : (given : RecordState) → IsFine (start given)
start-fine given = set-ascends (filter is_section (all_keys given.files))
