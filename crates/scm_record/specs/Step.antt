-- The session after each event, and what the run does next.
use Rattle.std.specs.Prelude.{◌+◌, ◌-◌, not, None, if◌then◌else◌}
use Rattle.scm_widgets.specs.declared.ids.QuitDialogButtonId.TheVariants.{Quit, GoBack}
use Rattle.scm_input.specs.declared.events.Event.{Event}
use Rattle.scm_input.specs.declared.events.Event.TheVariants as events
use Rattle.scm_record.specs.declared.pages.Way.TheVariants.{Up, Down}
use Rattle.scm_record.specs.Session.{Session, with_dialog, with_help, with_scroll, in_other_mode, after_redraw, after_move, visible, visible_of_kind, after_advance, after_inner, after_outer, after_expand, after_expand_all, after_toggle, after_toggle_all, after_toggle_all_uniform}
use Rattle.scm_record.specs.Frames.{Scene}
use Rattle.scm_record.specs.FrameQueries.{scroll_to_show, hit}
use Rattle.scm_record.specs.Change.{stays, accepts, cancels, shoots}
use Rattle.scm_record.specs.Dialogs.{is_quit_dialog_open, after_quit_request, unless_quit_dialog_open, help_closed_or, dialog_closed_or, dialog_focused_or, dialog_pressed_or}
use Rattle.scm_record.specs.Pages.{after_scroll, after_page}
use Rattle.scm_record.specs.Clicks.{after_click}
use Rattle.scm_record.specs.Messages.{after_edit_request}
pub use Rattle.scm_record.specs.Change.{Change}

-- the change by an event in the session `s`, with `scene` as what was drawn last
abbrev pub change : Scene → Session → Event → Change
-- these depend only on what is drawn, or change only how it is drawn, even if a dialog is open
change scene s events.None = stays s
change scene s events.Redraw = stays (after_redraw s)
change scene s events.EnsureSelectionInViewport = stays (with_scroll s (scroll_to_show scene s.scroll s.shown.selection))
change scene s (events.TakeScreenshot shot) = shoots shot.place s
change scene s (events.Click row column) = after_click scene.open_menu s (hit scene s.scroll row column)
change scene s events.ToggleCommitViewMode = stays (in_other_mode s)
-- these are for an open help first, and then for an open quit dialog
change scene s events.Help = stays (with_help s (not s.shown.is_help_open))
change scene s events.QuitEscape = help_closed_or s (stays (with_dialog s None))
change scene s events.QuitCancel = help_closed_or s (dialog_closed_or s (after_quit_request s))
change scene s events.ToggleItem = help_closed_or s (dialog_pressed_or s (stays (after_toggle s)))
change scene s events.ToggleItemAndAdvance = help_closed_or s (dialog_pressed_or s (stays (after_advance (after_toggle s))))
-- these are for an open quit dialog first
change scene s events.QuitAccept = unless_quit_dialog_open s (help_closed_or s (accepts s))
change scene s events.QuitInterrupt = if is_quit_dialog_open s then cancels s else after_quit_request s
change scene s events.FocusInner = dialog_focused_or s Quit (stays (after_inner s))
change scene s (events.FocusOuter fold_section) = dialog_focused_or s GoBack (stays (after_outer s fold_section))
-- these are for the document alone: an open quit dialog ignores them
change scene s events.ScrollUp = unless_quit_dialog_open s (stays (after_scroll scene s (s.scroll - 1)))
change scene s events.ScrollDown = unless_quit_dialog_open s (stays (after_scroll scene s (s.scroll + 1)))
change scene s events.PageUp = unless_quit_dialog_open s (stays (after_scroll scene s (s.scroll - scene.height)))
change scene s events.PageDown = unless_quit_dialog_open s (stays (after_scroll scene s (s.scroll + scene.height)))
change scene s events.FocusPrev = unless_quit_dialog_open s (stays (after_move Up (visible s) s))
change scene s events.FocusPrevSameKind = unless_quit_dialog_open s (stays (after_move Up (visible_of_kind s) s))
change scene s events.FocusPrevPage = unless_quit_dialog_open s (stays (after_page scene Up s))
change scene s events.FocusNext = unless_quit_dialog_open s (stays (after_move Down (visible s) s))
change scene s events.FocusNextSameKind = unless_quit_dialog_open s (stays (after_move Down (visible_of_kind s) s))
change scene s events.FocusNextPage = unless_quit_dialog_open s (stays (after_page scene Down s))
change scene s events.ToggleAll = unless_quit_dialog_open s (stays (after_toggle_all s))
change scene s events.ToggleAllUniform = unless_quit_dialog_open s (stays (after_toggle_all_uniform s))
change scene s events.ExpandItem = unless_quit_dialog_open s (stays (after_expand s))
change scene s events.ExpandAll = unless_quit_dialog_open s (stays (after_expand_all s))
change scene s events.EditCommitMessage = unless_quit_dialog_open s (after_edit_request s 0)
