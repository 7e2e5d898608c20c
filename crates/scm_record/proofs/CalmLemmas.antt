-- Only `QuitAccept` accepts, only `Redraw` clears the screen, and only `TakeScreenshot` keeps it.
use Rattle.std.proofs.Common.{◌≡◌, ℕ, ◌+◌, ◌-◌, Bool, true, false, List, [], ◌∷◌, ◌++◌, Option, Some, None, cond, refl}
use Rattle.std.specs.Prelude.{option_map}
use Rattle.scm_types.specs.declared.file.File.{File}
use Rattle.scm_types.specs.declared.keys.SelectionKey.{SelectionKey}
use Rattle.scm_types.specs.declared.keys.SelectionKey.TheVariants as keys
use Rattle.scm_widgets.specs.declared.ids.ComponentId.{ComponentId}
use Rattle.scm_widgets.specs.declared.ids.ComponentId.TheVariants as ids
use Rattle.scm_widgets.specs.declared.ids.QuitDialogButtonId.{QuitDialogButtonId}
use Rattle.scm_widgets.specs.declared.ids.QuitDialogButtonId.TheVariants.{Quit, GoBack}
use Rattle.scm_input.specs.declared.events.Event.{Event}
use Rattle.scm_input.specs.declared.events.Event.TheVariants as events
use Rattle.scm_record.specs.declared.pages.Way.TheVariants.{Up, Down}
use Rattle.scm_record.specs.declared.session.Flow.{Flow}
use Rattle.scm_record.specs.declared.session.Flow.TheVariants as flows
use Rattle.scm_types.specs.Keys.{file_of, file_of_section}
use Rattle.scm_selection.specs.KeyLists.{all_keys}
use Rattle.scm_selection.specs.KeySet.{is_key, key_set, is_same_set}
use Rattle.scm_selection.specs.Counts.{message_count, changed_count}
use Rattle.scm_record.specs.Session.{Session, with_pushed, with_dialog, with_help, with_scroll, at_key, after_item, after_select, after_fold, after_move, visible, visible_of_kind, after_advance, after_inner, after_outer, after_leaving, after_expand, after_expand_all, with_files_changed, after_toggle, after_toggle_all, after_toggle_all_uniform, message_of}
use Rattle.scm_selection.specs.Toggle.{with_key_toggled, with_all_inverted, with_all_set}
use Rattle.scm_record.specs.Frames.{Scene}
use Rattle.scm_record.specs.FrameQueries.{limited_scroll, hit}
use Rattle.scm_record.specs.Change.{Change, stays, cancels}
use Rattle.scm_record.specs.Dialogs.{after_press, with_focus, button_of, new_quit_dialog, after_quit_request, unless_quit_dialog_open, help_closed_or, dialog_closed_or, dialog_pressed_or}
use Rattle.scm_record.specs.Pages.{after_page}
use Rattle.scm_record.specs.Messages.{after_edit_request, edit_if}
use Rattle.scm_record.specs.Clicks.{item_event, after_click_on, after_click}
use Rattle.scm_record.specs.Step.{change}

-- whether a run just goes on or is given up, or goes on once a message is edited
abbrev pub is_calm : Flow → Bool
is_calm flows.GoOn = true
is_calm flows.Accept = false
is_calm flows.Cancel = true
is_calm (flows.Edit commit) = true
is_calm (flows.Shoot place) = false

-- what may accept, clear the screen or keep it
abbrev pub is_lively : Event → Bool
is_lively events.QuitAccept = true
is_lively events.Redraw = true
is_lively (events.TakeScreenshot shot) = true
is_lively _ = false

-- the run is not accepted and the screen not kept, and it is as clear as it was
pub record Calm (s : Session) (c : Change) : Type 0 where
  pub flow : is_calm c.flow ≡ true
  pub cleared : c.session.cleared ≡ s.cleared

either-calm : (b : Bool) (s : Session) (c d : Change) → Calm s c → Calm s d → Calm s (cond b c d)
either-calm true s c d h k = h
either-calm false s c d h k = k

either-still : (b : Bool) (s t u : Session) → Calm s (stays t) → Calm s (stays u) → Calm s (stays (cond b t u))
either-still true s t u h k = h
either-still false s t u h k = k

changed-cleared : (b : Bool) (s t : Session) → t.cleared ≡ s.cleared → (cond b s t).cleared ≡ s.cleared
changed-cleared true s t e = refl
changed-cleared false s t e = e

module _ (s : Session) where
  -- nothing that is said here changes
  idle : (t : Session) → t.cleared ≡ s.cleared → Calm s (stays t)
  idle t e = record { flow = refl; cleared = e }

  gives_up : Calm s (cancels s)
  gives_up = record { flow = refl; cleared = refl }

  opens : Calm s (after_quit_request s)
  opens = either-calm _ s (cancels s) (stays (with_dialog s (Some (new_quit_dialog (message_count s.shown.state) (changed_count s.shown.state))))) gives_up (idle (with_dialog s (Some (new_quit_dialog (message_count s.shown.state) (changed_count s.shown.state)))) refl)

  presses : (button : QuitDialogButtonId) → Calm s (after_press s button)
  presses Quit = gives_up
  presses GoBack = idle (with_dialog s None) refl

  edits_message : (commit : ℕ) (message : Option (List ℕ)) → Calm s (edit_if commit (with_pushed s events.Redraw) message)
  edits_message commit None = record { flow = refl; cleared = refl }
  edits_message commit (Some text) = record { flow = refl; cleared = refl }

  goes_outside : (fold_section : Bool) (selection : SelectionKey) → Calm s (stays (after_leaving s fold_section selection))
  goes_outside fold_section keys.None = idle s refl
  goes_outside fold_section (keys.File key) = idle (after_fold s (keys.File key)) refl
  goes_outside fold_section (keys.Section key) = either-still _ s (after_fold s (keys.Section key)) (after_select s (keys.File (file_of_section key))) (idle (after_fold s (keys.Section key)) refl) (idle (after_select s (keys.File (file_of_section key))) refl)
  goes_outside fold_section (keys.Line key) = record { flow = refl; cleared = refl }

  flips_all : (b : Bool) → Calm s (stays (record (cond b (record s { shown = record s.shown { selection = file_of s.shown.selection; expanded = [] } }) (record s { shown = record s.shown { expanded = key_set (all_keys s.shown.state.files) } })) { pending = (cond b (record s { shown = record s.shown { selection = file_of s.shown.selection; expanded = [] } }) (record s { shown = record s.shown { expanded = key_set (all_keys s.shown.state.files) } })).pending ++ events.EnsureSelectionInViewport ∷ [] }))
  flips_all true = record { flow = refl; cleared = refl }
  flips_all false = record { flow = refl; cleared = refl }

  files_change : (f : List File → List File) → (with_files_changed f s).cleared ≡ s.cleared
  files_change f = changed-cleared s.shown.state.is_read_only s (record s { shown = record s.shown { state = record s.shown.state { files = f s.shown.state.files } } }) refl

  toggles : Calm s (stays (after_toggle s))
  toggles = idle (after_toggle s) (files_change (with_key_toggled s.shown.selection))

  -- what lies over the document comes first
  module _ (c : Change) (h : Calm s c) where
    unless : Calm s (unless_quit_dialog_open s c)
    unless = either-calm _ s (stays s) c (idle s refl) h

    helps_or : Calm s (help_closed_or s c)
    helps_or = either-calm _ s (stays (with_help s false)) c (idle (with_help s false) refl) h

    presses_or : Calm s (dialog_pressed_or s c)
    presses_or = either-calm _ s (after_press s (button_of s.shown.quit_dialog)) c (presses (button_of s.shown.quit_dialog)) h

  clicks_item : (pushed_event : Option Event) → Calm s (stays (after_item s pushed_event))
  clicks_item None = record { flow = refl; cleared = refl }
  clicks_item (Some next) = record { flow = refl; cleared = refl }

  clicks_on : (open_menu : Option ℕ) (id : ComponentId) → Calm s (after_click_on open_menu s id)
  clicks_on open_menu (ids.ToggleBox key) = either-still (is_key key s.shown.selection) s (after_toggle s) (at_key s key) toggles (idle (at_key s key) refl)
  clicks_on open_menu (ids.ExpandBox key) = either-still (is_key key s.shown.selection) s (after_expand s) (at_key s key) (idle (after_expand s) refl) (idle (at_key s key) refl)
  clicks_on open_menu (ids.FileViewHeader key) = record { flow = refl; cleared = refl }
  clicks_on open_menu (ids.SelectableItem key) = record { flow = refl; cleared = refl }
  clicks_on open_menu (ids.CommitEditMessageButton commit) = edits_message commit (message_of s commit)
  clicks_on open_menu ids.MenuBar = record { flow = refl; cleared = refl }
  clicks_on open_menu (ids.Menu menu) = record { flow = refl; cleared = refl }
  clicks_on open_menu (ids.MenuItem item) = clicks_item (item_event open_menu item)
  clicks_on open_menu (ids.QuitDialogButton button) = presses button
  clicks_on open_menu ids.HelpDialogQuitButton = record { flow = refl; cleared = refl }
  clicks_on open_menu ids.QuitDialog = record { flow = refl; cleared = refl }
  clicks_on open_menu ids.HelpDialog = record { flow = refl; cleared = refl }
  clicks_on open_menu ids.App = record { flow = refl; cleared = refl }
  clicks_on open_menu ids.AppFiles = record { flow = refl; cleared = refl }
  clicks_on open_menu ids.MenuHeader = record { flow = refl; cleared = refl }
  clicks_on open_menu ids.CommitMessageView = record { flow = refl; cleared = refl }

  clicks : (open_menu : Option ℕ) (id : Option ComponentId) → Calm s (after_click open_menu s id)
  clicks open_menu None = idle s refl
  clicks open_menu (Some id) = clicks_on open_menu id

  -- every event but these three is calm
  pub calm : (scene : Scene) (event : Event) → is_lively event ≡ false → Calm s (change scene s event)
  calm scene events.None e = idle s refl
  calm scene events.Redraw e = cc
  calm scene events.EnsureSelectionInViewport e = record { flow = refl; cleared = refl }
  calm scene (events.TakeScreenshot shot) e = cc
  calm scene (events.Click row column) e = clicks scene.open_menu (hit scene s.scroll row column)
  calm scene events.ToggleCommitViewMode e = record { flow = refl; cleared = refl }
  calm scene events.Help e = record { flow = refl; cleared = refl }
  calm scene events.QuitEscape e = helps_or (stays (with_dialog s None)) (idle (with_dialog s None) refl)
  calm scene events.QuitCancel e = helps_or (dialog_closed_or s (after_quit_request s)) (either-calm _ s (stays (with_dialog s None)) (after_quit_request s) (idle (with_dialog s None) refl) opens)
  calm scene events.ToggleItem e = helps_or (dialog_pressed_or s (stays (after_toggle s))) (presses_or (stays (after_toggle s)) toggles)
  calm scene events.ToggleItemAndAdvance e = helps_or (dialog_pressed_or s (stays (after_advance (after_toggle s)))) (presses_or (stays (after_advance (after_toggle s))) (idle (after_advance (after_toggle s)) (files_change (with_key_toggled s.shown.selection))))
  calm scene events.QuitAccept e = cc
  calm scene events.QuitInterrupt e = either-calm _ s (cancels s) (after_quit_request s) gives_up opens
  calm scene events.FocusInner e = either-calm _ s (stays (with_dialog s (option_map (with_focus Quit) s.shown.quit_dialog))) (stays (after_inner s)) (idle (with_dialog s (option_map (with_focus Quit) s.shown.quit_dialog)) refl) (idle (after_inner s) refl)
  calm scene (events.FocusOuter fold_section) e = either-calm _ s (stays (with_dialog s (option_map (with_focus GoBack) s.shown.quit_dialog))) (stays (after_outer s fold_section)) (idle (with_dialog s (option_map (with_focus GoBack) s.shown.quit_dialog)) refl) (goes_outside fold_section s.shown.selection)
  calm scene events.ScrollUp e = unless (stays (with_scroll s (limited_scroll scene (s.scroll - 1)))) (idle (with_scroll s (limited_scroll scene (s.scroll - 1))) refl)
  calm scene events.ScrollDown e = unless (stays (with_scroll s (limited_scroll scene (s.scroll + 1)))) (idle (with_scroll s (limited_scroll scene (s.scroll + 1))) refl)
  calm scene events.PageUp e = unless (stays (with_scroll s (limited_scroll scene (s.scroll - scene.height)))) (idle (with_scroll s (limited_scroll scene (s.scroll - scene.height))) refl)
  calm scene events.PageDown e = unless (stays (with_scroll s (limited_scroll scene (s.scroll + scene.height)))) (idle (with_scroll s (limited_scroll scene (s.scroll + scene.height))) refl)
  calm scene events.FocusPrev e = unless (stays (after_move Up (visible s) s)) (idle (after_move Up (visible s) s) refl)
  calm scene events.FocusPrevSameKind e = unless (stays (after_move Up (visible_of_kind s) s)) (idle (after_move Up (visible_of_kind s) s) refl)
  calm scene events.FocusPrevPage e = unless (stays (after_page scene Up s)) (idle (after_page scene Up s) refl)
  calm scene events.FocusNext e = unless (stays (after_move Down (visible s) s)) (idle (after_move Down (visible s) s) refl)
  calm scene events.FocusNextSameKind e = unless (stays (after_move Down (visible_of_kind s) s)) (idle (after_move Down (visible_of_kind s) s) refl)
  calm scene events.FocusNextPage e = unless (stays (after_page scene Down s)) (idle (after_page scene Down s) refl)
  calm scene events.ToggleAll e = unless (stays (after_toggle_all s)) (idle (after_toggle_all s) (files_change with_all_inverted))
  calm scene events.ToggleAllUniform e = unless (stays (after_toggle_all_uniform s)) (idle (after_toggle_all_uniform s) (files_change with_all_set))
  calm scene events.ExpandItem e = unless (stays (after_expand s)) (idle (after_expand s) refl)
  calm scene events.ExpandAll e = unless (stays (after_expand_all s)) (flips_all (is_same_set s.shown.expanded (key_set (all_keys s.shown.state.files))))
  calm scene events.EditCommitMessage e = unless (after_edit_request s 0) (edits_message 0 (message_of s 0))
