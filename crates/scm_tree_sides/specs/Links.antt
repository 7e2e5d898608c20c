-- The mode that a tree has at the path of a file, where one of the file's versions may be a link.
use Rattle.std.specs.Prelude.{ℕ, ◌/◌, ◌==◌, Bool, Option, Some, None, if◌then◌else◌}
use Rattle.std.specs.Option.{option_or}
use Rattle.scm_tree_sides.specs.declared.modes.Modes.{Modes}
use Rattle.scm_tree_sides.specs.declared.modes.Side.{Side}
use Rattle.scm_tree_sides.specs.SideVersions.{mode_on_side}

-- whether the mode is that of a link: its bits from the thirteenth on are 10, as in the octal number 120000
abbrev pub is_link : ℕ → Bool
is_link mode = mode / 4096 == 10

-- the mode of the link, if one of two versions is a link and the other one a file
abbrev pub link_of : Option ℕ → Option ℕ → Option ℕ
link_of None new = None
link_of (Some old) None = None
link_of (Some old) (Some new) =
    if is_link old then (if is_link new then None else Some old) else if is_link new then Some new else None

abbrev pub link_beside : Modes → Option ℕ
link_beside modes = link_of modes.old modes.new

-- the mode of a version that is a file
abbrev pub file_mode : Option ℕ → Option ℕ
file_mode None = None
file_mode (Some mode) = if is_link mode then None else Some mode

-- the modes of the versions that are files
abbrev pub files_of : Modes → Modes
files_of modes = record { old = file_mode modes.old; new = file_mode modes.new }

-- The mode that a side has beside this link, if there is one: where the file does not exist, the link does.
abbrev pub mode_beside : Option ℕ → Modes → Side → Option ℕ
mode_beside None modes side = mode_on_side modes side
mode_beside (Some link) modes side = option_or (mode_on_side (files_of modes) side) (Some link)

-- The mode that a tree has at the path of a file by a side.
abbrev pub mode_in_tree : Modes → Side → Option ℕ
mode_in_tree modes side = mode_beside (link_beside modes) modes side
