-- Mouse clicks: the session after a click, by the component that it hits.
use Rattle.std.specs.Prelude.{ℕ, false, Option, Some, None, option_and_then, if◌then◌else◌}
use Rattle.scm_types.specs.declared.keys.SelectionKey.{SelectionKey}
use Rattle.scm_types.specs.declared.keys.SelectionKey.TheVariants as keys
use Rattle.scm_widgets.specs.declared.ids.ComponentId.{ComponentId}
use Rattle.scm_widgets.specs.declared.ids.ComponentId.TheVariants as ids
use Rattle.scm_input.specs.declared.events.Event.{Event}
use Rattle.scm_selection.specs.KeySet.{is_key}
use Rattle.scm_record.specs.Session.{Session, at_key, with_menu, with_help, after_menu, after_item, after_toggle, after_expand}
use Rattle.scm_view_state.specs.Menus.{event_of_item}
use Rattle.scm_record.specs.Change.{Change, stays}
use Rattle.scm_record.specs.Dialogs.{after_press}
use Rattle.scm_record.specs.Messages.{after_edit_request}

-- the event of item `item` of the menu `open_menu`, if both exist
abbrev pub item_event : Option ℕ → ℕ → Option Event
item_event open_menu item = option_and_then (λ (menu : ℕ). event_of_item menu item) open_menu

-- the session after a click on a box of `key`: `done` if `key` is selected; otherwise `key` becomes selected
abbrev pub after_box_click : Session → SelectionKey → Session → Session
after_box_click s key done = if is_key key s.shown.selection then done else at_key s key

-- the change by a click on a component of a frame in which the menu `open_menu` was open
abbrev pub after_click_on : Option ℕ → Session → ComponentId → Change
-- the document
after_click_on open_menu s (ids.ToggleBox key) = stays (after_box_click s key (after_toggle s))
after_click_on open_menu s (ids.ExpandBox key) = stays (after_box_click s key (after_expand s))
after_click_on open_menu s (ids.FileViewHeader key) = stays (at_key s (keys.File key))
after_click_on open_menu s (ids.SelectableItem key) = stays (at_key s key)
after_click_on open_menu s (ids.CommitEditMessageButton commit) = after_edit_request s commit
-- the menus
after_click_on open_menu s ids.MenuBar = stays (with_menu s None)
after_click_on open_menu s (ids.Menu menu) = stays (after_menu s menu)
after_click_on open_menu s (ids.MenuItem item) = stays (after_item s (item_event open_menu item))
-- the dialogs
after_click_on open_menu s (ids.QuitDialogButton button) = after_press s button
after_click_on open_menu s ids.HelpDialogQuitButton = stays (with_help s false)
after_click_on open_menu s ids.QuitDialog = stays s
after_click_on open_menu s ids.HelpDialog = stays s
-- containers
after_click_on open_menu s ids.App = stays s
after_click_on open_menu s ids.AppFiles = stays s
after_click_on open_menu s ids.MenuHeader = stays s
after_click_on open_menu s ids.CommitMessageView = stays s

-- the change by a click that hits a component or none, on a frame in which the menu `open_menu` was open
abbrev pub after_click : Option ℕ → Session → Option ComponentId → Change
after_click open_menu s None = stays s
after_click open_menu s (Some id) = after_click_on open_menu s id
