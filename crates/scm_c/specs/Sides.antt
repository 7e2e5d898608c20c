-- A side of a session's file, as trees take it.
use Rattle.std.specs.Prelude.{ℕ, ◌==◌, Bool}
use Rattle.scm_c_values.specs.declared.sides.Side as told
use Rattle.scm_tree_sides.specs.declared.modes.Side.{Side}
use Rattle.scm_tree_sides.specs.Bits.{mode_with_bits}

-- the selected side if `selected`, or the other one, of which this is told: contents of kind 2 are those of an item
abbrev pub side_told : Bool → told.Side → Side
side_told selected t = record { selected = selected; mode = mode_with_bits t.mode; is_binary = t.contents == 2; is_empty = t.len == 0 }
