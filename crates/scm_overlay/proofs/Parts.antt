-- The parts of the screen, and to which of them each component belongs.
use Rattle.scm_widgets.specs.declared.ids.ComponentId.{ComponentId}
use Rattle.scm_widgets.specs.declared.ids.ComponentId.TheVariants as ids

-- the parts of the screen, from the top one down
pub data Part : Type 0 where
  Help : Part
  Leaving : Part
  Menus : Part
  Body : Part
  Whole : Part

-- the part to which a component belongs
abbrev pub part_of : ComponentId → Part
part_of ids.App = Whole
part_of ids.AppFiles = Body
part_of ids.MenuBar = Menus
part_of ids.MenuHeader = Menus
part_of (ids.Menu k) = Menus
part_of (ids.MenuItem k) = Menus
part_of ids.CommitMessageView = Body
part_of (ids.CommitEditMessageButton k) = Body
part_of (ids.FileViewHeader k) = Body
part_of (ids.SelectableItem k) = Body
part_of (ids.ToggleBox k) = Body
part_of (ids.ExpandBox k) = Body
part_of ids.QuitDialog = Leaving
part_of (ids.QuitDialogButton b) = Leaving
part_of ids.HelpDialog = Help
part_of ids.HelpDialogQuitButton = Help
