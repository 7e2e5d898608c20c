-- What a state is given of a changed file.
use Rattle.std.specs.Prelude.{ℕ, ◌%◌, ◌==◌, Bool, true, false, not, ◌&&◌, ◌||◌, Option, Some, None, is_some, if◌then◌else◌}
use Rattle.scm_tree_sides.specs.declared.modes.Modes.{Modes}
use Rattle.scm_tree_sides.specs.declared.shown.Shown.{Shown}
use Rattle.scm_tree_sides.specs.declared.shown.Shown.TheVariants.{Lines, Items, Whole}
use Rattle.scm_tree_sides.specs.declared.shown.Changed.{Changed}
use Rattle.scm_tree_sides.specs.declared.shown.ShownAs.{ShownAs}
use Rattle.scm_tree_sides.specs.Links.{files_of, is_link, link_beside}

-- whether both versions have one mode, or neither exists
abbrev pub is_same : Option ℕ → Option ℕ → Bool
is_same None None = true
is_same None (Some new) = false
is_same (Some old) None = false
is_same (Some old) (Some new) = old == new

-- whether a version is no file: it does not exist, or is a link
abbrev pub is_no_file : Option ℕ → Bool
is_no_file None = true
is_no_file (Some mode) = is_link mode

-- whether contents that are items come and go with the mode: the modes differ, and one version is no file
abbrev pub go_along : Modes → Bool
go_along modes = not (is_same modes.old modes.new) && (is_no_file modes.old || is_no_file modes.new)

-- the modes of a renamed file
abbrev pub both_modes : Option ℕ → Option ℕ → Option (ℕ × ℕ)
both_modes None new = None
both_modes (Some old) None = None
both_modes (Some old) (Some new) = Some (old, new)

abbrev pub renamed_modes_of : Changed → Option (ℕ × ℕ)
renamed_modes_of c = if c.is_renamed then both_modes c.modes.old c.modes.new else None

abbrev pub is_by_lines : Shown → Bool
is_by_lines Lines = true
is_by_lines Items = false
is_by_lines Whole = false

abbrev pub is_wanted_whole : Shown → Bool
is_wanted_whole Lines = false
is_wanted_whole Items = false
is_wanted_whole Whole = true

-- whether one item is for all of the file: a new version comes, and its contents come with its mode
abbrev pub is_whole : Changed → Bool
is_whole c = is_wanted_whole c.shown && (not c.is_renamed && (is_some c.modes.new && go_along c.modes))

-- the modes that are shown: a link beside a file that is shown by lines counts as no file
abbrev pub shown_modes : Changed → Modes
shown_modes c = if is_by_lines c.shown && is_some (link_beside c.modes) then files_of c.modes else c.modes

-- The mode before the changes. That of a renamed file has no kind, as no file has it: so its new path is an item, a change of the
-- mode.
abbrev pub mode_before : Option (ℕ × ℕ) → Changed → Option ℕ
mode_before (Some modes) c = Some (modes.0 % 4096)
mode_before None c = if is_whole c then c.modes.new else (shown_modes c).old

abbrev pub first_mode : Changed → Option ℕ
first_mode c = mode_before (renamed_modes_of c) c

-- what a state is given of a changed file, whose contents differ if `is_other`
abbrev pub shown_as : Changed → Bool → ShownAs
shown_as c is_other = record {
  old = first_mode c;
  new = (shown_modes c).new;
  has_mode = not (is_same (first_mode c) (shown_modes c).new);
  has_contents = not (is_by_lines c.shown) && (is_whole c || (is_other && not (go_along c.modes)));
}
