-- The help and the quit dialog: what they do with events while they are open.
use Rattle.std.specs.Prelude.{ℕ, ◌==◌, ◌&&◌, Bool, false, Option, Some, None, is_some, option_map, if◌then◌else◌}
use Rattle.scm_overlay.specs.declared.quit_dialog.QuitDialog.{QuitDialog}
use Rattle.scm_widgets.specs.declared.ids.QuitDialogButtonId.{QuitDialogButtonId}
use Rattle.scm_widgets.specs.declared.ids.QuitDialogButtonId.TheVariants.{Quit, GoBack}
use Rattle.scm_selection.specs.Counts.{message_count, changed_count}
use Rattle.scm_record.specs.Session.{Session, with_dialog, with_help}
use Rattle.scm_record.specs.Change.{Change, stays, cancels}

-- closes the help if it is open; `otherwise` if not
abbrev pub help_closed_or : Session → Change → Change
help_closed_or s otherwise = if s.shown.is_help_open then stays (with_help s false) else otherwise

-- ---- the quit dialog, an overlay of the document

-- whether the quit dialog is open
abbrev pub is_quit_dialog_open : Session → Bool
is_quit_dialog_open s = is_some s.shown.quit_dialog

-- no change if the quit dialog is open; `otherwise` if not
abbrev pub unless_quit_dialog_open : Session → Change → Change
unless_quit_dialog_open s otherwise = if is_quit_dialog_open s then stays s else otherwise

-- closes the quit dialog if it is open; `otherwise` if not
abbrev pub dialog_closed_or : Session → Change → Change
dialog_closed_or s otherwise = if is_quit_dialog_open s then stays (with_dialog s None) else otherwise

-- the dialog with its focus on `button`
abbrev pub with_focus : QuitDialogButtonId → QuitDialog → QuitDialog
with_focus button dialog = record dialog { focused_button = button }

-- moves the focus of the quit dialog to `button` if it is open; `otherwise` if not
abbrev pub dialog_focused_or : Session → QuitDialogButtonId → Change → Change
dialog_focused_or s button otherwise =
    if is_quit_dialog_open s then stays (with_dialog s (option_map (with_focus button) s.shown.quit_dialog)) else otherwise

-- the change by a press of a button of the quit dialog
abbrev pub after_press : Session → QuitDialogButtonId → Change
after_press s Quit = cancels s
after_press s GoBack = stays (with_dialog s None)

-- the focused button of the quit dialog, or Quit if it is closed
abbrev pub button_of : Option QuitDialog → QuitDialogButtonId
button_of None = Quit
button_of (Some dialog) = dialog.focused_button

-- presses the focused button of the quit dialog if it is open; `otherwise` if not
abbrev pub dialog_pressed_or : Session → Change → Change
dialog_pressed_or s otherwise = if is_quit_dialog_open s then after_press s (button_of s.shown.quit_dialog) else otherwise

-- the quit dialog as it opens: with its focus on Quit
abbrev pub new_quit_dialog : ℕ → ℕ → QuitDialog
new_quit_dialog messages files =
    record { num_commit_messages = messages; num_changed_files = files; focused_button = Quit }

-- the change by a request to quit: cancels if no messages and no files would be lost; otherwise opens the quit dialog
abbrev pub after_quit_with_changes : Session → ℕ → ℕ → Change
after_quit_with_changes s messages files =
    if messages == 0 && files == 0 then cancels s else stays (with_dialog s (Some (new_quit_dialog messages files)))

-- the change by a request to quit the session `s`
abbrev pub after_quit_request : Session → Change
after_quit_request s = after_quit_with_changes s (message_count s.shown.state) (changed_count s.shown.state)
