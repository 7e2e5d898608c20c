-- What is drawn over the document.
use Rattle.std.specs.Prelude.{ℕ, pos, Bool, Option}
use Rattle.scm_render.specs.Picture.{Picture, followed_by, part}
use Rattle.scm_widgets.specs.declared.ids.ComponentId.{ComponentId}
use Rattle.scm_widgets.specs.declared.ids.ComponentId.TheVariants as ids
use Rattle.scm_overlay.specs.declared.quit_dialog.QuitDialog.{QuitDialog}
use Rattle.scm_overlay.specs.Menus.{menu_bar_picture}
use Rattle.scm_overlay.specs.Tables.{menus_with}
use Rattle.scm_widgets.specs.Screens.{sight}
use Rattle.scm_overlay.specs.Overlays.{quit_picture, help_picture}

-- on a screen of w columns and h rows at row s of the document
abbrev pub overlays_picture : ℕ → ℕ → ℕ → Option ℕ → Option QuitDialog → Bool → Picture ComponentId
overlays_picture w h s menu quit help =
    followed_by (part ids.MenuBar (menu_bar_picture (menus_with menu) (sight w h s) (pos 0) (pos s)))
    (followed_by (quit_picture quit (sight w h s)) (help_picture help (sight w h s)))
