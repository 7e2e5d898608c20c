-- Changed files as C has them. The greatest `usize` stands for no file.
use Rattle.std.specs.Prelude.{ℕ, ◌-◌, ◌^◌, ◌==◌, Option, Some, None, if◌then◌else◌}
use Rattle.scm_types.specs.declared.file_mode.FileMode.{FileMode}
use Rattle.scm_types.specs.declared.file_mode.FileMode.TheVariants.{Unix, Absent}
use Rattle.scm_tree_sides.specs.declared.shown.Shown.{Shown}
use Rattle.scm_tree_sides.specs.declared.shown.Shown.TheVariants.{Lines, Items, Whole}
use Rattle.scm_tree_sides.specs.declared.shown.Changed.{Changed}
use Rattle.scm_tree_sides.specs.declared.shown.ShownAs.{ShownAs}
use Rattle.scm_tree_sides.specs.declared.placed.Origin.{Origin}
use Rattle.scm_tree_sides.specs.declared.placed.Origin.TheVariants.{OfSide, OfOld, OfNew}
use Rattle.scm_tree_sides.specs.declared.placed.InTree.{InTree}
use Rattle.scm_tree_sides.specs.declared.bits.ChangedBits.{ChangedBits}
use Rattle.scm_tree_sides.specs.declared.bits.ShownBits.{ShownBits}
use Rattle.scm_tree_sides.specs.declared.bits.InTreeBits.{InTreeBits}

abbrev pub no_mode : ℕ
no_mode = 2 ^ 64 - 1

-- the mode of a version that has these bits, if it exists
abbrev pub version_mode : ℕ → Option ℕ
version_mode bits = if bits == no_mode then None else Some bits

-- the mode of a side that has these bits
abbrev pub mode_with_bits : ℕ → FileMode
mode_with_bits bits = if bits == no_mode then Absent else Unix bits

-- the bits of a mode, if there is one
abbrev pub bits_of : Option ℕ → ℕ
bits_of None = no_mode
bits_of (Some mode) = mode

-- how contents are shown: by items if the number is 1, by one item if it is 2, and else by lines
abbrev pub shown_of : ℕ → Shown
shown_of number = if number == 1 then Items else if number == 2 then Whole else Lines

abbrev pub changed_of : ChangedBits → Changed
changed_of c = record { modes = record { old = version_mode c.old; new = version_mode c.new }; shown = shown_of c.shown; is_renamed = c.is_renamed }

abbrev pub shown_bits : ShownAs → ShownBits
shown_bits s = record { old = bits_of s.old; new = bits_of s.new; has_mode = s.has_mode; has_contents = s.has_contents }

-- whose contents a file has: 0 are those of the side, 1 those of the old version, 2 those of the new one
abbrev pub origin_number : Origin → ℕ
origin_number OfSide = 0
origin_number OfOld = 1
origin_number OfNew = 2

abbrev pub in_tree_bits : InTree → InTreeBits
in_tree_bits t = record { mode = bits_of t.mode; old_path_mode = bits_of t.old_path_mode; contents = origin_number t.contents }
