-- What a key names among the files of a state. The commit of the key does not matter.
use Rattle.std.specs.Prelude.{ℕ, nat_lt, List, length, slice_get, Option, option_and_then, option_map, if◌then◌else◌}
use Rattle.std.specs.Option.{unwrap_or}
use Rattle.scm_types.specs.declared.file.File.{File}
use Rattle.scm_types.specs.declared.line.ChangeType.{ChangeType}
use Rattle.scm_types.specs.declared.line.ChangeType.TheVariants as changes
use Rattle.scm_types.specs.declared.line.SectionChangedLine.{SectionChangedLine}
use Rattle.scm_types.specs.declared.section.Section.{Section}
use Rattle.scm_types.specs.declared.section.Section.TheVariants as sections
use Rattle.scm_types.specs.declared.keys.SelectionKey.{SelectionKey}
use Rattle.scm_types.specs.declared.keys.SelectionKey.TheVariants as keys
use Rattle.scm_view.specs.ViewState.{ViewState}
use Rattle.scm_view_state.specs.declared.items.ItemKind.{ItemKind}
use Rattle.scm_view_state.specs.declared.items.ItemKind.TheVariants as kinds

-- the kind of a section
abbrev pub kind_of_section : Section → ItemKind
kind_of_section (sections.Unchanged lines) = kinds.Context
kind_of_section (sections.Changed lines) = kinds.Section
kind_of_section (sections.FileMode is_checked mode) = kinds.Mode
kind_of_section (sections.Binary is_checked old new) = kinds.Binary

-- the kind of a changed line, by its change
abbrev pub kind_of_change : ChangeType → ItemKind
kind_of_change changes.Added = kinds.Added
kind_of_change changes.Removed = kinds.Removed

-- the kind of a changed line
abbrev pub kind_of_changed_line : SectionChangedLine → ItemKind
kind_of_changed_line line = kind_of_change line.change_type

-- the kind of line `index` of a section, counted from 0, or `Nothing` if there is no such line
abbrev pub kind_of_line : Section → ℕ → ItemKind
kind_of_line (sections.Unchanged lines) index = if nat_lt index (length lines) then kinds.Context else kinds.Nothing
kind_of_line (sections.Changed lines) index = unwrap_or (option_map kind_of_changed_line (slice_get lines index)) kinds.Nothing
kind_of_line (sections.FileMode is_checked mode) index = kinds.Nothing
kind_of_line (sections.Binary is_checked old new) index = kinds.Nothing

-- section `section` of file `file`, both counted from 0, if there is one
abbrev pub section_at : List File → ℕ → ℕ → Option Section
section_at files file section = option_and_then (λ (f : File). slice_get f.sections section) (slice_get files file)

-- what a key names: a context section and its lines are `Context`
abbrev pub item_kind : ViewState → SelectionKey → ItemKind
item_kind s keys.None = kinds.Nothing
item_kind s (keys.File key) = if nat_lt key.file_idx (length s.state.files) then kinds.File else kinds.Nothing
item_kind s (keys.Section key) =
    unwrap_or (option_map kind_of_section (section_at s.state.files key.file_idx key.section_idx)) kinds.Nothing
item_kind s (keys.Line key) =
    unwrap_or
    (option_map (λ section. kind_of_line section key.line_idx) (section_at s.state.files key.file_idx key.section_idx))
    kinds.Nothing
