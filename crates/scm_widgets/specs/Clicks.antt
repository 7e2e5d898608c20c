-- The components that a click acts on.
use Rattle.std.specs.Prelude.{Bool, true, false}
use Rattle.scm_widgets.specs.declared.ids.ComponentId.{ComponentId}
use Rattle.scm_widgets.specs.declared.ids.ComponentId.TheVariants as ids

-- Whether a click acts on the component.
abbrev pub is_clickable : ComponentId → Bool
is_clickable ids.App = false
is_clickable ids.AppFiles = false
is_clickable ids.MenuBar = true
is_clickable ids.MenuHeader = false
is_clickable (ids.Menu k) = true
is_clickable (ids.MenuItem k) = true
is_clickable ids.CommitMessageView = false
is_clickable (ids.CommitEditMessageButton k) = true
is_clickable (ids.FileViewHeader k) = true
is_clickable (ids.SelectableItem k) = true
is_clickable (ids.ToggleBox k) = true
is_clickable (ids.ExpandBox k) = true
is_clickable ids.QuitDialog = true
is_clickable (ids.QuitDialogButton b) = true
is_clickable ids.HelpDialog = true
is_clickable ids.HelpDialogQuitButton = true
