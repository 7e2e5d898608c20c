-- Draw calls of overlays: the dialogs.
use Rattle.std.specs.Prelude.{Bool, Option}
use Rattle.scm_render.specs.Draws.{DrawCall}
use Rattle.scm_widgets.specs.declared.ids.ComponentId.{ComponentId}
use Rattle.scm_overlay.specs.declared.quit_dialog.QuitDialog.{QuitDialog}
use Rattle.scm_widgets.specs.Counts.{drawn}
use Rattle.scm_overlay.specs.Counts.{quit_calls, help_calls}
use Rattle.scm_overlay.specs.Overlays.{quit_picture, help_picture}

-- The quit dialog, if it is open.
abbrev pub quit_call : Option QuitDialog → DrawCall ComponentId
quit_call dialog = record {
  picture = λ sight. quit_picture dialog sight;
  counts = λ sight. drawn 0 (quit_calls dialog);
}

-- The help dialog, if it is open.
abbrev pub help_call : Bool → DrawCall ComponentId
help_call is_open = record {
  picture = λ sight. help_picture is_open sight;
  counts = λ sight. drawn 0 (help_calls is_open);
}
