-- Overlays of the document: the menu bar with its open menu, the quit dialog and the help dialog.
use Rattle.std.specs.Prelude.{ℕ, Bool, true, false, List, [], ◌∷◌, ◌++◌, Option, Some, None}
use Rattle.scm_render.specs.Canvas.{Sight}
use Rattle.scm_render.specs.Picture.{Picture, nothing, part}
use Rattle.scm_widgets.specs.declared.ids.ComponentId.{ComponentId}
use Rattle.scm_widgets.specs.declared.ids.ComponentId.TheVariants as ids
use Rattle.scm_overlay.specs.declared.quit_dialog.QuitDialog.{QuitDialog}
use Rattle.scm_widgets.specs.Layers.{Layer}
use Rattle.scm_overlay.specs.Menus.{menu_layer}
use Rattle.scm_overlay.specs.Dialogs.{dialog_layer}
use Rattle.scm_overlay.specs.Tables.{menus_with, quit_dialog, help_dialog, named_dialog_picture}

-- ---- what they draw

-- The quit dialog, if it is open.
abbrev pub quit_picture : Option QuitDialog → Sight → Picture ComponentId
quit_picture None s = nothing
quit_picture (Some q) s = part ids.QuitDialog (named_dialog_picture (quit_dialog q) s)

-- The help dialog, if it is open.
abbrev pub help_picture : Bool → Sight → Picture ComponentId
help_picture true s = part ids.HelpDialog (named_dialog_picture help_dialog s)
help_picture false s = nothing

-- ---- what the screen shows of them, and its owners

-- The layer of the quit dialog, if it is open.
abbrev pub quit_layers : ℕ → ℕ → ℕ → Option QuitDialog → List (Layer ComponentId)
quit_layers w h s None = []
quit_layers w h s (Some q) = dialog_layer w h s (quit_dialog q) ∷ []

-- The layer of the help dialog, if it is open.
abbrev pub help_layers : ℕ → ℕ → ℕ → Bool → List (Layer ComponentId)
help_layers w h s true = dialog_layer w h s help_dialog ∷ []
help_layers w h s false = []

-- The layers of all overlays. A later layer lies over an earlier one.
abbrev pub overlays : ℕ → ℕ → ℕ → Option ℕ → Option QuitDialog → Bool → List (Layer ComponentId)
overlays w h s menu quit help = menu_layer w s (menus_with menu) ∷ (quit_layers w h s quit ++ help_layers w h s help)
