-- The buttons of the quit dialog: which of them quits.
use Rattle.std.specs.Prelude.{Bool, true, false}
use Rattle.scm_widgets.specs.declared.ids.QuitDialogButtonId.{QuitDialogButtonId}
use Rattle.scm_widgets.specs.declared.ids.QuitDialogButtonId.TheVariants.{Quit, GoBack}

-- Whether it is the button that quits.
abbrev pub is_quit : QuitDialogButtonId → Bool
is_quit Quit = true
is_quit GoBack = false

-- Whether it is the button that keeps the changes.
abbrev pub is_go_back : QuitDialogButtonId → Bool
is_go_back Quit = false
is_go_back GoBack = true
