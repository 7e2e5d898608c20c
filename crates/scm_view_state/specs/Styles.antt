-- The style of a place of the screen, by its row and by the component that a click there acts on.
use Rattle.std.specs.Prelude.{ℕ, ◌==◌, Bool, true, false, Option, Some, None, if◌then◌else◌}
use Rattle.scm_types.specs.declared.keys.FileKey.{FileKey}
use Rattle.scm_types.specs.declared.keys.SelectionKey.{SelectionKey}
use Rattle.scm_types.specs.declared.keys.SelectionKey.TheVariants as keys
use Rattle.scm_types.specs.Keys.{is_key}
use Rattle.scm_cells.specs.declared.style.Colour.{Colour}
use Rattle.scm_cells.specs.declared.style.Colour.TheVariants.{Blue, Green, Red}
use Rattle.scm_cells.specs.declared.style.Style.{Style}
use Rattle.scm_widgets.specs.declared.ids.ComponentId.{ComponentId}
use Rattle.scm_widgets.specs.declared.ids.ComponentId.TheVariants as ids
use Rattle.scm_overlay.specs.declared.quit_dialog.QuitDialog.{QuitDialog}
use Rattle.scm_widgets.specs.declared.ids.QuitDialogButtonId.{QuitDialogButtonId}
use Rattle.scm_widgets.specs.declared.ids.QuitDialogButtonId.TheVariants as buttons
use Rattle.scm_view.specs.ViewState.{ViewState}
use Rattle.scm_view_state.specs.declared.items.ItemKind.{ItemKind}
use Rattle.scm_view_state.specs.declared.items.ItemKind.TheVariants as kinds
use Rattle.scm_view_state.specs.Items.{item_kind}

-- ---- the styles

-- the style without a colour or an attribute
abbrev pub plain : Style
plain = record { colour = None; bold = false; dim = false; underlined = false; reversed = false }

-- the plain style in a colour
abbrev pub in_colour : Colour → Style
in_colour colour = record plain { colour = Some colour }

-- the bold style
abbrev pub bold : Style
bold = record plain { bold = true }

-- the dim style
abbrev pub dim : Style
dim = record plain { dim = true }

-- the style, reversed if `is_reversed`
abbrev pub reversed_if : Bool → Style → Style
reversed_if is_reversed style = if is_reversed then record style { reversed = true } else style

-- ---- the style of each kind of place

-- the style of an unselected item: additions green, removals red, context dim, modes and binaries blue
abbrev pub kind_style : ItemKind → Style
kind_style kinds.Nothing = plain
kind_style kinds.File = plain
kind_style kinds.Section = plain
kind_style kinds.Context = dim
kind_style kinds.Added = in_colour Green
kind_style kinds.Removed = in_colour Red
kind_style kinds.Mode = in_colour Blue
kind_style kinds.Binary = in_colour Blue

-- the style, reversed if the key is selected
abbrev pub selected_style : ViewState → SelectionKey → Style → Style
selected_style s key style = reversed_if (is_key key s.selection) style

-- the style of a section or a line, by its kind; the columns that a file owns beside its sections are plain
abbrev pub item_style : ViewState → SelectionKey → Style
item_style s keys.None = plain
item_style s (keys.File key) = plain
item_style s (keys.Section key) = selected_style s (keys.Section key) (kind_style (item_kind s (keys.Section key)))
item_style s (keys.Line key) = selected_style s (keys.Line key) (kind_style (item_kind s (keys.Line key)))

-- the style of a file header: blue and reversed if the file is selected
abbrev pub header_style : ViewState → FileKey → Style
header_style s key = if is_key (keys.File key) s.selection then reversed_if true (in_colour Blue) else plain

-- the style of an unselected toggle box: dim if the state is read-only, else bold
abbrev pub toggle_style : ViewState → Style
toggle_style s = if s.state.is_read_only then dim else bold

-- whether two buttons of the quit dialog are the same
abbrev pub is_button : QuitDialogButtonId → QuitDialogButtonId → Bool
is_button buttons.Quit buttons.Quit = true
is_button buttons.Quit buttons.GoBack = false
is_button buttons.GoBack buttons.Quit = false
is_button buttons.GoBack buttons.GoBack = true

-- whether the quit dialog is open and the button is its focused one
abbrev pub is_focused_in : Option QuitDialog → QuitDialogButtonId → Bool
is_focused_in None button = false
is_focused_in (Some dialog) button = is_button dialog.focused_button button

-- ---- the table

-- the style of a place that a component owns, on row `row` of the screen, counted from 0
abbrev pub component_style : ViewState → ℕ → ComponentId → Style
-- the menus: beside an open menu the document is covered, but not reversed
component_style s row ids.MenuBar = reversed_if (row == 0) plain
component_style s row (ids.Menu menu) = reversed_if true plain
component_style s row (ids.MenuItem item) = reversed_if true plain
-- the document
component_style s row (ids.FileViewHeader key) = header_style s key
component_style s row (ids.SelectableItem key) = item_style s key
component_style s row (ids.ToggleBox key) = selected_style s key (toggle_style s)
component_style s row (ids.ExpandBox key) = selected_style s key bold
component_style s row (ids.CommitEditMessageButton commit) = plain
-- the dialogs
component_style s row ids.QuitDialog = plain
component_style s row (ids.QuitDialogButton button) = reversed_if (is_focused_in s.quit_dialog button) plain
component_style s row ids.HelpDialog = plain
component_style s row ids.HelpDialogQuitButton = reversed_if true plain
-- what no click acts on
component_style s row ids.App = plain
component_style s row ids.AppFiles = plain
component_style s row ids.MenuHeader = plain
component_style s row ids.CommitMessageView = plain

-- the style of a place on row `row` of the screen, by its owner, if it has one
abbrev pub style_of : ViewState → ℕ → Option ComponentId → Style
style_of s row None = plain
style_of s row (Some id) = component_style s row id
