-- What an event does to the state of a session, and what it leaves pending.
use Rattle.std.proofs.Common.{◌≡◌, ℕ, ◌+◌, ◌-◌, ◌≤◌, min, Bool, true, false, List, [], ◌∷◌, ◌++◌, Option, Some, None, cond, ap, sym, ◌∙◌, refl, arith}
use Rattle.std.specs.Prelude.{is_some, option_and_then, option_map, slice_get}
use Rattle.scm_types.specs.Limits.{max_scroll}
use Rattle.scm_types.specs.declared.file.File.{File}
use Rattle.scm_types.specs.declared.state.Commit.{Commit}
use Rattle.scm_types.specs.declared.state.RecordState.{RecordState}
use Rattle.scm_types.specs.declared.keys.SelectionKey.{SelectionKey}
use Rattle.scm_types.specs.declared.keys.SelectionKey.TheVariants as keys
use Rattle.scm_widgets.specs.declared.ids.ComponentId.{ComponentId}
use Rattle.scm_widgets.specs.declared.ids.ComponentId.TheVariants as ids
use Rattle.scm_widgets.specs.declared.ids.QuitDialogButtonId.{QuitDialogButtonId}
use Rattle.scm_widgets.specs.declared.ids.QuitDialogButtonId.TheVariants.{Quit, GoBack}
use Rattle.scm_input.specs.declared.events.Event.{Event}
use Rattle.scm_input.specs.declared.events.Event.TheVariants as events
use Rattle.scm_record.specs.declared.pages.Way.TheVariants.{Up, Down}
use Rattle.scm_record.specs.declared.session.Flow.{Flow}
use Rattle.scm_record.specs.declared.session.Flow.TheVariants as flows
use Rattle.scm_types.specs.Keys.{file_of, file_of_section}
use Rattle.scm_selection.specs.KeyLists.{all_keys}
use Rattle.scm_selection.specs.KeySet.{is_key, key_set, is_same_set}
use Rattle.scm_selection.specs.Counts.{message_count, changed_count}
use Rattle.scm_record.specs.Session.{Session, with_pushed, with_dialog, with_help, at_key, after_item, after_select, after_fold, after_move, visible, visible_of_kind, after_advance, after_inner, after_outer, after_leaving, after_expand, after_expand_all, with_files_changed, after_toggle, after_toggle_all, after_toggle_all_uniform, message_of}
use Rattle.scm_selection.specs.Toggle.{with_key_toggled}
use Rattle.scm_record.specs.Frames.{Scene}
use Rattle.scm_record.specs.FrameQueries.{hit}
use Rattle.scm_record.specs.Change.{Change, stays, accepts, cancels}
use Rattle.scm_record.specs.Dialogs.{after_press, with_focus, button_of, new_quit_dialog, after_quit_request, unless_quit_dialog_open, help_closed_or, dialog_closed_or, dialog_pressed_or}
use Rattle.scm_record.specs.Pages.{after_scroll, after_page}
use Rattle.scm_record.specs.Messages.{after_edit_request, edit_if}
use Rattle.scm_record.specs.Clicks.{item_event, after_click_on, after_click}
use Rattle.scm_record.specs.Step.{change}
use Rattle.scm_record.proofs.Budget.{rank}
use Rattle.scm_record.proofs.MenuLemmas.{IsLow, item-low}

-- the message of a commit in a list, if there is one
abbrev pub message_at : List Commit → ℕ → Option (List ℕ)
message_at cs i = option_and_then (λ (c : Commit). c.message) (slice_get cs i)

-- an edit is asked for only of a commit that has a message
abbrev pub Allows : Session → Flow → Type 0
Allows s flows.GoOn = Unit {0}
Allows s flows.Accept = Unit {0}
Allows s flows.Cancel = Unit {0}
Allows s (flows.Edit commit) = is_some (message_of s commit) ≡ true
Allows s (flows.Shoot place) = Unit {0}

-- the state is left as it was, toggled, inverted and repaired, or set to one mark
pub data Marks (s : Session) : RecordState → Flow → Type 0 where
  unmarked : {flow : Flow} → Allows s flow → Marks s s.shown.state flow
  toggled : Marks s (after_toggle s).shown.state flows.GoOn
  inverted : Marks s (after_toggle_all s).shown.state flows.GoOn
  all_set : Marks s (after_toggle_all_uniform s).shown.state flows.GoOn

-- at most one event is pushed, which ranks below
pub data Pushes (event : Event) (old : List Event) : List Event → Type 0 where
  nothing : Pushes event old old
  pushed : (next : Event) → rank next + 1 ≤ rank event → Pushes event old (old ++ next ∷ [])

-- the scroll stays, or is held
pub data Scrolls (old : ℕ) : ℕ → Type 0 where
  unscrolled : Scrolls old old
  scrolled : {new : ℕ} → new ≤ max_scroll → Scrolls old new

pub record Leads (event : Event) (s : Session) (c : Change) : Type 0 where
  pub marks : Marks s c.session.shown.state c.flow
  pub pushes : Pushes event s.pending c.session.pending
  pub scrolls : Scrolls s.scroll c.session.scroll

either-leads : (b : Bool) (event : Event) (s : Session) (c d : Change) → Leads event s c → Leads event s d → Leads event s (cond b c d)
either-leads true event s c d h k = h
either-leads false event s c d h k = k

either-stays : (b : Bool) (event : Event) (s t u : Session) → Leads event s (stays t) → Leads event s (stays u) → Leads event s (stays (cond b t u))
either-stays true event s t u h k = h
either-stays false event s t u h k = k

changed-pending : (b : Bool) (s t : Session) → t.pending ≡ s.pending → (cond b s t).pending ≡ s.pending
changed-pending true s t e = refl
changed-pending false s t e = e

changed-scroll : (b : Bool) (s t : Session) → t.scroll ≡ s.scroll → (cond b s t).scroll ≡ s.scroll
changed-scroll true s t e = refl
changed-scroll false s t e = e

low-min : (limit n : ℕ) → min limit n ≤ limit
low-min limit n = omega arith

low-held : (n limit extent : ℕ) → min n (min limit extent) ≤ limit
low-held n limit extent = omega arith

module _ (event : Event) (s : Session) where
  -- nothing but the dialog, the scroll or the screen changes
  idle : Leads event s (stays s)
  idle = record { marks = unmarked tt; pushes = nothing; scrolls = unscrolled }

  ends : (flow : Flow) → Allows s flow → Leads event s (record { session = s; flow = flow })
  ends flow h = record { marks = unmarked h; pushes = nothing; scrolls = unscrolled }

  closes : Leads event s (stays (with_dialog s None))
  closes = record { marks = unmarked tt; pushes = nothing; scrolls = unscrolled }

  focuses : (button : QuitDialogButtonId) → Leads event s (stays (with_dialog s (option_map (with_focus button) s.shown.quit_dialog)))
  focuses button = record { marks = unmarked tt; pushes = nothing; scrolls = unscrolled }

  opens : Leads event s (after_quit_request s)
  opens = either-leads _ event s (cancels s) (stays (with_dialog s (Some (new_quit_dialog (message_count s.shown.state) (changed_count s.shown.state))))) (ends flows.Cancel tt) (record { marks = unmarked tt; pushes = nothing; scrolls = unscrolled })

  presses : (button : QuitDialogButtonId) → Leads event s (after_press s button)
  presses Quit = ends flows.Cancel tt
  presses GoBack = closes

  edits_message : 1 ≤ rank event → (commit : ℕ) (message : Option (List ℕ)) → message_of s commit ≡ message → Leads event s (edit_if commit (with_pushed s events.Redraw) message)
  edits_message k commit None e = record { marks = unmarked tt; pushes = pushed events.Redraw k; scrolls = unscrolled }
  edits_message k commit (Some text) e = record { marks = unmarked (ap is_some e); pushes = pushed events.Redraw k; scrolls = unscrolled }

  module _ (k : 1 ≤ rank event) where
    selects : (key : SelectionKey) → Leads event s (stays (after_select s key))
    selects key = record { marks = unmarked tt; pushes = pushed events.EnsureSelectionInViewport k; scrolls = unscrolled }

    folds : (key : SelectionKey) → Leads event s (stays (after_fold s key))
    folds key = record { marks = unmarked tt; pushes = pushed events.EnsureSelectionInViewport k; scrolls = unscrolled }

    goes_outside : (fold_section : Bool) (selection : SelectionKey) → Leads event s (stays (after_leaving s fold_section selection))
    goes_outside fold_section keys.None = idle
    goes_outside fold_section (keys.File key) = folds (keys.File key)
    goes_outside fold_section (keys.Section key) = either-stays _ event s (after_fold s (keys.Section key)) (after_select s (keys.File (file_of_section key))) (folds (keys.Section key)) (selects (keys.File (file_of_section key)))
    goes_outside fold_section (keys.Line key) = selects _

    flips_all : (b : Bool) → Leads event s (stays (record (cond b (record s { shown = record s.shown { selection = file_of s.shown.selection; expanded = [] } }) (record s { shown = record s.shown { expanded = key_set (all_keys s.shown.state.files) } })) { pending = (cond b (record s { shown = record s.shown { selection = file_of s.shown.selection; expanded = [] } }) (record s { shown = record s.shown { expanded = key_set (all_keys s.shown.state.files) } })).pending ++ events.EnsureSelectionInViewport ∷ [] }))
    flips_all true = record { marks = unmarked tt; pushes = pushed events.EnsureSelectionInViewport k; scrolls = unscrolled }
    flips_all false = record { marks = unmarked tt; pushes = pushed events.EnsureSelectionInViewport k; scrolls = unscrolled }

  files_change : (f : List File → List File) → (with_files_changed f s).pending ≡ s.pending
  files_change f = changed-pending s.shown.state.is_read_only s (record s { shown = record s.shown { state = record s.shown.state { files = f s.shown.state.files } } }) refl

  files_scroll : (f : List File → List File) → (with_files_changed f s).scroll ≡ s.scroll
  files_scroll f = changed-scroll s.shown.state.is_read_only s (record s { shown = record s.shown { state = record s.shown.state { files = f s.shown.state.files } } }) refl

  toggles : Leads event s (stays (after_toggle s))
  toggles = record { marks = toggled; pushes = rw (files_change (with_key_toggled s.shown.selection)) nothing; scrolls = rw (files_scroll (with_key_toggled s.shown.selection)) unscrolled }

  advances : 1 ≤ rank event → Leads event s (stays (after_advance (after_toggle s)))
  advances k = record { marks = toggled; pushes = rw (files_change (with_key_toggled s.shown.selection)) (pushed events.EnsureSelectionInViewport k); scrolls = rw (files_scroll (with_key_toggled s.shown.selection)) unscrolled }

  helps : Leads event s (stays (with_help s false))
  helps = record { marks = unmarked tt; pushes = nothing; scrolls = unscrolled }

  -- what lies over the document comes first
  module _ (c : Change) (h : Leads event s c) where
    unless : Leads event s (unless_quit_dialog_open s c)
    unless = either-leads _ event s (stays s) c idle h

    helps_or : Leads event s (help_closed_or s c)
    helps_or = either-leads _ event s (stays (with_help s false)) c helps h

    presses_or : Leads event s (dialog_pressed_or s c)
    presses_or = either-leads _ event s (after_press s (button_of s.shown.quit_dialog)) c (presses (button_of s.shown.quit_dialog)) h

  holds : (scene : Scene) (scroll : ℕ) → Leads event s (unless_quit_dialog_open s (stays (after_scroll scene s scroll)))
  holds scene scroll = unless (stays (after_scroll scene s scroll)) (record { marks = unmarked tt; pushes = nothing; scrolls = scrolled (low-held scroll max_scroll (scene.frame.extent - 1)) })

-- ---- clicks

module _ (event : Event) (s : Session) (k : 2 ≤ rank event) where
  clicks_item : (pushed_event : Option Event) → IsLow pushed_event → Leads event s (stays (after_item s pushed_event))
  clicks_item None h = record { marks = unmarked tt; pushes = nothing; scrolls = unscrolled }
  clicks_item (Some next) h = record { marks = unmarked tt; pushes = pushed next (omega arith); scrolls = unscrolled }

  clicks_on : (open_menu : Option ℕ) (id : ComponentId) → Leads event s (after_click_on open_menu s id)
  clicks_on open_menu (ids.ToggleBox key) = either-stays (is_key key s.shown.selection) event s (after_toggle s) (at_key s key) (toggles event s) (record { marks = unmarked tt; pushes = nothing; scrolls = unscrolled })
  clicks_on open_menu (ids.ExpandBox key) = either-stays (is_key key s.shown.selection) event s (after_expand s) (at_key s key) (record { marks = unmarked tt; pushes = pushed events.EnsureSelectionInViewport (omega arith); scrolls = unscrolled }) (record { marks = unmarked tt; pushes = nothing; scrolls = unscrolled })
  clicks_on open_menu (ids.FileViewHeader key) = record { marks = unmarked tt; pushes = nothing; scrolls = unscrolled }
  clicks_on open_menu (ids.SelectableItem key) = record { marks = unmarked tt; pushes = nothing; scrolls = unscrolled }
  clicks_on open_menu (ids.CommitEditMessageButton commit) = edits_message event s (omega arith) commit (message_of s commit) refl
  clicks_on open_menu ids.MenuBar = record { marks = unmarked tt; pushes = nothing; scrolls = unscrolled }
  clicks_on open_menu (ids.Menu menu) = record { marks = unmarked tt; pushes = nothing; scrolls = unscrolled }
  clicks_on open_menu (ids.MenuItem item) = clicks_item (item_event open_menu item) (item-low open_menu item)
  clicks_on open_menu (ids.QuitDialogButton button) = presses event s button
  clicks_on open_menu ids.HelpDialogQuitButton = helps event s
  clicks_on open_menu ids.QuitDialog = idle event s
  clicks_on open_menu ids.HelpDialog = idle event s
  clicks_on open_menu ids.App = idle event s
  clicks_on open_menu ids.AppFiles = idle event s
  clicks_on open_menu ids.MenuHeader = idle event s
  clicks_on open_menu ids.CommitMessageView = idle event s

  clicks : (open_menu : Option ℕ) (id : Option ComponentId) → Leads event s (after_click open_menu s id)
  clicks open_menu None = idle event s
  clicks open_menu (Some id) = clicks_on open_menu id

-- ---- each event

pub leads : (scene : Scene) (s : Session) (event : Event) → Leads event s (change scene s event)
leads scene s events.None = idle _ s
leads scene s events.Redraw = record { marks = unmarked tt; pushes = nothing; scrolls = unscrolled }
leads scene s events.EnsureSelectionInViewport = record { marks = unmarked tt; pushes = nothing; scrolls = scrolled (low-min max_scroll _) }
leads scene s (events.TakeScreenshot shot) = ends _ s (flows.Shoot shot.place) tt
leads scene s (events.Click row column) = clicks _ s (omega arith) scene.open_menu (hit scene s.scroll row column)
leads scene s events.ToggleCommitViewMode = record { marks = unmarked tt; pushes = nothing; scrolls = unscrolled }
leads scene s events.Help = record { marks = unmarked tt; pushes = nothing; scrolls = unscrolled }
leads scene s events.QuitEscape = helps_or _ s (stays (with_dialog s None)) (closes _ s)
leads scene s events.QuitCancel = helps_or _ s (dialog_closed_or s (after_quit_request s)) (either-leads _ _ s (stays (with_dialog s None)) (after_quit_request s) (closes _ s) (opens _ s))
leads scene s events.ToggleItem = helps_or _ s (dialog_pressed_or s (stays (after_toggle s))) (presses_or _ s (stays (after_toggle s)) (toggles _ s))
leads scene s events.ToggleItemAndAdvance = helps_or _ s (dialog_pressed_or s (stays (after_advance (after_toggle s)))) (presses_or _ s (stays (after_advance (after_toggle s))) (advances _ s (omega arith)))
leads scene s events.QuitAccept = unless _ s (help_closed_or s (accepts s)) (helps_or _ s (accepts s) (ends _ s flows.Accept tt))
leads scene s events.QuitInterrupt = either-leads _ _ s (cancels s) (after_quit_request s) (ends _ s flows.Cancel tt) (opens _ s)
leads scene s events.FocusInner = either-leads _ _ s (stays (with_dialog s (option_map (with_focus Quit) s.shown.quit_dialog))) (stays (after_inner s)) (focuses _ s Quit) (selects _ s (omega arith) _)
leads scene s (events.FocusOuter fold_section) = either-leads _ _ s (stays (with_dialog s (option_map (with_focus GoBack) s.shown.quit_dialog))) (stays (after_outer s fold_section)) (focuses _ s GoBack) (goes_outside _ s (omega arith) fold_section s.shown.selection)
leads scene s events.ScrollUp = holds _ s scene (s.scroll - 1)
leads scene s events.ScrollDown = holds _ s scene (s.scroll + 1)
leads scene s events.PageUp = holds _ s scene (s.scroll - scene.height)
leads scene s events.PageDown = holds _ s scene (s.scroll + scene.height)
leads scene s events.FocusPrev = unless _ s (stays (after_move Up (visible s) s)) (selects _ s (omega arith) _)
leads scene s events.FocusPrevSameKind = unless _ s (stays (after_move Up (visible_of_kind s) s)) (selects _ s (omega arith) _)
leads scene s events.FocusPrevPage = unless _ s (stays (after_page scene Up s)) (selects _ s (omega arith) _)
leads scene s events.FocusNext = unless _ s (stays (after_move Down (visible s) s)) (selects _ s (omega arith) _)
leads scene s events.FocusNextSameKind = unless _ s (stays (after_move Down (visible_of_kind s) s)) (selects _ s (omega arith) _)
leads scene s events.FocusNextPage = unless _ s (stays (after_page scene Down s)) (selects _ s (omega arith) _)
leads scene s events.ToggleAll = unless _ s (stays (after_toggle_all s)) (record { marks = inverted; pushes = rw (files_change events.ToggleAll s _) nothing; scrolls = rw (files_scroll events.ToggleAll s _) unscrolled })
leads scene s events.ToggleAllUniform = unless _ s (stays (after_toggle_all_uniform s)) (record { marks = all_set; pushes = rw (files_change events.ToggleAllUniform s _) nothing; scrolls = rw (files_scroll events.ToggleAllUniform s _) unscrolled })
leads scene s events.ExpandItem = unless _ s (stays (after_expand s)) (record { marks = unmarked tt; pushes = pushed events.EnsureSelectionInViewport (omega arith); scrolls = unscrolled })
leads scene s events.ExpandAll = unless _ s (stays (after_expand_all s)) (flips_all _ s (omega arith) (is_same_set s.shown.expanded (key_set (all_keys s.shown.state.files))))
leads scene s events.EditCommitMessage = unless _ s (after_edit_request s 0) (edits_message _ s (omega arith) 0 (message_of s 0) refl)

allows-same : (s t : Session) (flow : Flow) → s.shown.state ≡ t.shown.state → Allows s flow → Allows t flow
allows-same s t flows.GoOn e h = tt
allows-same s t flows.Accept e h = tt
allows-same s t flows.Cancel e h = tt
allows-same s t (flows.Edit commit) e h = ap (λ (state : RecordState). is_some (message_at state.commits commit)) (sym e) ∙ h
allows-same s t (flows.Shoot place) e h = tt

-- what an event asks for is allowed in the session after it
pub marks-allow : (s t : Session) (state : RecordState) (flow : Flow) → Marks s state flow → state ≡ t.shown.state → Allows t flow
marks-allow s t _ flow (unmarked allowed) e = allows-same s t flow e allowed
marks-allow s t _ _ toggled e = tt
marks-allow s t _ _ inverted e = tt
marks-allow s t _ _ all_set e = tt
