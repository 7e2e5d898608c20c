-- The sides of a file whose contents are items, or that has lines beside a link, are its two versions.
use Rattle.std.specs.Prelude.{◌≡◌, ℕ, ◌≤◌, List, [], ◌∷◌, ◌++◌, Bool, true, false, not, Option, Some, None, if◌then◌else◌}
use Rattle.scm_types.specs.declared.file.File.{File}
use Rattle.scm_types.specs.declared.file_mode.FileMode.{FileMode}
use Rattle.scm_types.specs.declared.file_mode.FileMode.TheVariants.{Unix, Absent}
use Rattle.scm_types.specs.declared.section.Section.{Section}
use Rattle.scm_types.specs.declared.section.Section.TheVariants as section
use Rattle.scm_diff.specs.declared.change.Version.{Version}
use Rattle.scm_diff.specs.Change.{checked}
use Rattle.scm_tree_sides.specs.declared.modes.Modes.{Modes}
use Rattle.scm_tree_sides.specs.declared.shown.Changed.{Changed}
use Rattle.scm_tree_sides.specs.declared.placed.InTree.{InTree}
use Rattle.scm_tree_sides.specs.declared.placed.Origin.TheVariants.{OfSide}
use Rattle.scm_tree_sides.specs.SideVersions.{modes_of, side_in}
use Rattle.scm_tree_sides.specs.Links.{is_link, link_beside}
use Rattle.scm_tree_sides.specs.Shown.{is_by_lines, renamed_modes_of, shown_as}
use Rattle.scm_tree_sides.specs.InTree.{contents_of, in_tree, is_link_version, mode_of}

-- the mode of a file that may not exist
abbrev pub file_mode_of : Option ℕ → FileMode
file_mode_of None = Absent
file_mode_of (Some mode) = Unix mode

-- the item of a change of the mode, if there is one
abbrev pub mode_items : Bool → Bool → Option ℕ → List Section
mode_items true is_checked mode = section.FileMode is_checked (file_mode_of mode) ∷ []
mode_items false is_checked mode = []

-- the item of the contents, if there is one
abbrev pub contents_items : Bool → Bool → Option (List ℕ) → Option (List ℕ) → List Section
contents_items true is_checked old new = section.Binary is_checked old new ∷ []
contents_items false is_checked old new = []

-- The file shows the change by its items, which are all checked or all not.
pub record ShowsItems (c : Changed) (is_other is_checked : Bool) (file : File) : Type 0 where
  pub by_items : is_by_lines c.shown ≡ false
  -- the mode of a renamed file has a kind
  pub has_kind : (modes : ℕ × ℕ) → renamed_modes_of c ≡ Some modes → 4096 ≤ modes.1
  pub old_words : Option (List ℕ)
  pub new_words : Option (List ℕ)
  pub mode : file.file_mode ≡ file_mode_of (shown_as c is_other).old
  pub sections : file.sections
      ≡ mode_items (shown_as c is_other).has_mode is_checked (shown_as c is_other).new
      ++ contents_items (shown_as c is_other).has_contents is_checked old_words new_words

-- the modes at both paths where the new version is in place if `is_new`, or else the old one
abbrev pub mode_at : Option (ℕ × ℕ) → Bool → Modes → Option ℕ
mode_at None is_new modes = mode_of is_new modes
mode_at (Some both) true modes = Some both.1
mode_at (Some both) false modes = None

abbrev pub old_path_mode_at : Option (ℕ × ℕ) → Bool → Option ℕ
old_path_mode_at None is_new = None
old_path_mode_at (Some both) true = None
old_path_mode_at (Some both) false = Some both.0

-- A tree has the new version of the change if `is_new`, or else the old one. If the contents do not differ, they are those of either.
pub record HasVersion (is_new : Bool) (c : Changed) (is_other : Bool) (t : InTree) : Type 0 where
  pub mode : t.mode ≡ mode_at (renamed_modes_of c) is_new c.modes
  pub old_path_mode : t.old_path_mode ≡ old_path_mode_at (renamed_modes_of c) is_new
  pub contents : is_other ≡ true → t.contents ≡ contents_of is_new

-- The sides of the file are the two versions: the selected side is the new one if everything is checked, and the old one if nothing is.
pub record ItemsComeBack (c : Changed) (is_other is_checked : Bool) (file : File) : Type 0 where
  pub selected : HasVersion is_checked c is_other (in_tree c (side_in true file))
  pub unselected : HasVersion (not is_checked) c is_other (in_tree c (side_in false file))

-- the version, unless it is a link
abbrev pub without_link : Option Version → Option Version
without_link None = None
without_link (Some v) = if is_link v.mode then None else Some v

-- The change is that of a link and a file, and the file is shown by lines.
pub record IsBesideLink (old new : Option Version) (c : Changed) : Type 0 where
  pub modes : c.modes ≡ modes_of old new
  pub by_lines : is_by_lines c.shown ≡ true
  pub is_renamed : c.is_renamed ≡ false
  pub link : ℕ
  pub is_beside : link_beside c.modes ≡ Some link

-- what a tree has where a version is in place: the version's mode, and the lines, or the link's contents
abbrev pub version_beside : Bool → Modes → InTree
version_beside is_new modes = record {
  mode = mode_of is_new modes;
  old_path_mode = None;
  contents = if is_link_version (mode_of is_new modes) then contents_of is_new else OfSide;
}

-- The sides of the file are the link and the file beside it: the file's lines are those of its version.
pub record LinksComeBack (c : Changed) (file : File) : Type 0 where
  -- nothing checked
  pub selected : in_tree c (side_in true file) ≡ version_beside false c.modes
  pub unselected : in_tree c (side_in false file) ≡ version_beside true c.modes
  -- everything checked
  pub checked_selected : in_tree c (side_in true (checked file)) ≡ version_beside true c.modes
  pub checked_unselected : in_tree c (side_in false (checked file)) ≡ version_beside false c.modes
