-- The item that a place of the screen belongs to: its code, and its key.
use Rattle.std.specs.Prelude.{ℕ, ◌^◌, ◌-◌, Option, Some, None, ◌==◌, if◌then◌else◌}
use Rattle.scm_types.specs.declared.keys.FileKey.{FileKey}
use Rattle.scm_types.specs.declared.keys.SelectionKey.{SelectionKey}
use Rattle.scm_types.specs.declared.keys.SelectionKey.TheVariants as keys
use Rattle.scm_view.specs.ViewState.{ViewState}
use Rattle.scm_widgets.specs.declared.ids.ComponentId.{ComponentId}
use Rattle.scm_widgets.specs.declared.ids.ComponentId.TheVariants as ids
use Rattle.scm_view_state.specs.Items.{item_kind}
use Rattle.scm_view_state.specs.declared.items.ItemKind.{ItemKind}
use Rattle.scm_view_state.specs.declared.items.ItemKind.TheVariants as kinds
use Rattle.scm_c_values.specs.declared.owners.Key.{Key}

-- ---- codes

-- The code of an item kind.
abbrev pub code_of_kind : ItemKind → ℕ
code_of_kind kinds.Nothing = 0
code_of_kind kinds.File = 14
code_of_kind kinds.Section = 5
code_of_kind kinds.Context = 11
code_of_kind kinds.Added = 9
code_of_kind kinds.Removed = 10
code_of_kind kinds.Mode = 12
code_of_kind kinds.Binary = 13

-- The code of a component, in the view state `s`.
abbrev pub code_of_component : ViewState → ComponentId → ℕ
code_of_component s ids.App = 0
code_of_component s ids.AppFiles = 0
code_of_component s ids.MenuBar = 1
code_of_component s ids.MenuHeader = 0
code_of_component s (ids.Menu i) = 1
code_of_component s (ids.MenuItem i) = 2
code_of_component s ids.CommitMessageView = 0
code_of_component s (ids.CommitEditMessageButton i) = 3
code_of_component s (ids.FileViewHeader key) = 4
code_of_component s (ids.SelectableItem key) = code_of_kind (item_kind s key)
code_of_component s (ids.ToggleBox key) = 6
code_of_component s (ids.ExpandBox key) = 7
code_of_component s ids.QuitDialog = 8
code_of_component s (ids.QuitDialogButton button) = 3
code_of_component s ids.HelpDialog = 8
code_of_component s ids.HelpDialogQuitButton = 3

-- The code of an optional owner: 0 without one.
abbrev pub code_of_owner : ViewState → Option ComponentId → ℕ
code_of_owner s None = 0
code_of_owner s (Some id) = code_of_component s id

-- ---- keys

-- The index that stands for "none" in a key: the greatest `usize`.
abbrev pub no_index : ℕ
no_index = 2 ^ 64 - 1

-- The key that names nothing.
abbrev pub no_key : Key
no_key = record { commit = no_index; file = no_index; section = no_index; line = no_index }

-- The key of the commit with index `commit`.
abbrev pub key_of_commit : ℕ → Key
key_of_commit commit = record no_key { commit = commit }

-- The key of a file.
abbrev pub key_of_file : FileKey → Key
key_of_file key = record no_key { commit = key.commit_idx; file = key.file_idx }

-- The key of a selected file, section or line.
abbrev pub key_of_item : SelectionKey → Key
key_of_item keys.None = no_key
key_of_item (keys.File key) = key_of_file key
key_of_item (keys.Section key) = record no_key { commit = key.commit_idx; file = key.file_idx; section = key.section_idx }
key_of_item (keys.Line key) =
    record { commit = key.commit_idx; file = key.file_idx; section = key.section_idx; line = key.line_idx }

-- The key of the item that a component belongs to.
abbrev pub key_of_component : ComponentId → Key
key_of_component ids.App = no_key
key_of_component ids.AppFiles = no_key
key_of_component ids.MenuBar = no_key
key_of_component ids.MenuHeader = no_key
key_of_component (ids.Menu i) = no_key
key_of_component (ids.MenuItem i) = no_key
key_of_component ids.CommitMessageView = no_key
key_of_component (ids.CommitEditMessageButton i) = key_of_commit i
key_of_component (ids.FileViewHeader key) = key_of_file key
key_of_component (ids.SelectableItem key) = key_of_item key
key_of_component (ids.ToggleBox key) = key_of_item key
key_of_component (ids.ExpandBox key) = key_of_item key
key_of_component ids.QuitDialog = no_key
key_of_component (ids.QuitDialogButton button) = no_key
key_of_component ids.HelpDialog = no_key
key_of_component ids.HelpDialogQuitButton = no_key

-- The key of an optional owner: no key without one.
abbrev pub key_of_owner : Option ComponentId → Key
key_of_owner None = no_key
key_of_owner (Some id) = key_of_component id

-- ---- the start

-- The item that a key names: a line, a section, a file, or none.
abbrev pub section_of_key : Key → SelectionKey
section_of_key key =
    if key.line == no_index then keys.Section (record { commit_idx = key.commit; file_idx = key.file; section_idx = key.section })
    else keys.Line (record { commit_idx = key.commit; file_idx = key.file; section_idx = key.section; line_idx = key.line })

abbrev pub file_of_key : Key → SelectionKey
file_of_key key =
    if key.section == no_index then keys.File (record { commit_idx = key.commit; file_idx = key.file })
    else section_of_key key

abbrev pub item_of_key : Key → SelectionKey
item_of_key key = if key.file == no_index then keys.None else file_of_key key
