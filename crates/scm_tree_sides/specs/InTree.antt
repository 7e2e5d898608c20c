-- What a tree has of a changed file by a side of it.
use Rattle.std.specs.Prelude.{ℕ, ◌==◌, Bool, true, false, ◌&&◌, ◌||◌, Option, Some, None, if◌then◌else◌}
use Rattle.scm_types.specs.declared.file_mode.FileMode.{FileMode}
use Rattle.scm_types.specs.declared.file_mode.FileMode.TheVariants.{Unix, Absent}
use Rattle.scm_tree_sides.specs.declared.modes.Modes.{Modes}
use Rattle.scm_tree_sides.specs.declared.modes.Side.{Side}
use Rattle.scm_tree_sides.specs.declared.shown.Changed.{Changed}
use Rattle.scm_tree_sides.specs.declared.placed.Origin.{Origin}
use Rattle.scm_tree_sides.specs.declared.placed.Origin.TheVariants.{OfSide, OfOld, OfNew}
use Rattle.scm_tree_sides.specs.declared.placed.InTree.{InTree}
use Rattle.scm_tree_sides.specs.SideVersions.{mode_on_side, renamed_modes}
use Rattle.scm_tree_sides.specs.Links.{files_of, is_link, link_beside, mode_in_tree}
use Rattle.scm_tree_sides.specs.Shown.{go_along, is_by_lines, is_whole, renamed_modes_of}

abbrev pub contents_of : Bool → Origin
contents_of true = OfNew
contents_of false = OfOld

abbrev pub mode_of : Bool → Modes → Option ℕ
mode_of true modes = modes.new
mode_of false modes = modes.old

-- ---- contents that are items

-- the mode of a side, if the file exists there
abbrev pub bits_of_mode : FileMode → Option ℕ
bits_of_mode Absent = None
bits_of_mode (Unix mode) = Some mode

-- whether the mode is that of the version
abbrev pub is_mode_of : FileMode → Option ℕ → Bool
is_mode_of Absent None = true
is_mode_of Absent (Some mode) = false
is_mode_of (Unix side) None = false
is_mode_of (Unix side) (Some mode) = side == mode

-- whether the contents of the side are those of the new version: its item is on the side, or they come with the mode, which is there
abbrev pub is_new_item : Changed → Side → Bool
is_new_item c side = if is_whole c then side.is_binary else side.is_binary || (go_along c.modes && is_mode_of side.mode c.modes.new)

-- the mode of the side: that of the version, if one item is for all of it
abbrev pub item_mode : Changed → Side → Option ℕ
item_mode c side = if is_whole c then mode_of side.is_binary c.modes else bits_of_mode side.mode

-- ---- contents that are lines

-- whether the version is a link
abbrev pub is_link_version : Option ℕ → Bool
is_link_version None = false
is_link_version (Some mode) = is_link mode

-- the contents beside a link: the lines, where the file is there, and else those of the link's version
abbrev pub contents_beside : Modes → Option ℕ → Origin
contents_beside modes (Some mode) = OfSide
contents_beside modes None = contents_of (is_link_version modes.new)

abbrev pub line_contents : Option ℕ → Modes → Side → Origin
line_contents None modes side = OfSide
line_contents (Some link) modes side = contents_beside modes (mode_on_side (files_of modes) side)

-- ---- both

abbrev pub contents_in : Changed → Side → Origin
contents_in c side = if is_by_lines c.shown then line_contents (link_beside c.modes) c.modes side else contents_of (is_new_item c side)

abbrev pub mode_in : Changed → Side → Option ℕ
mode_in c side = if is_by_lines c.shown then mode_in_tree c.modes side else item_mode c side

-- A renamed file is at one of its paths. Its contents are its own at either.
abbrev pub renamed_contents : Changed → Side → Origin
renamed_contents c side = if is_by_lines c.shown then OfSide else contents_of (is_new_item c side)

abbrev pub placed : Option (ℕ × ℕ) → Changed → Side → InTree
placed None c side = record { mode = mode_in c side; old_path_mode = None; contents = contents_in c side }
placed (Some modes) c side = record {
  mode = (renamed_modes modes.0 modes.1 side.mode).1;
  old_path_mode = (renamed_modes modes.0 modes.1 side.mode).0;
  contents = renamed_contents c side;
}

-- what a tree has of a changed file by a side of it
abbrev pub in_tree : Changed → Side → InTree
in_tree c side = placed (renamed_modes_of c) c side
