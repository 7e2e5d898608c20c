-- A mark by counts of items.
use Rattle.std.specs.Prelude.{ℕ, ◌==◌, if◌then◌else◌}
use Rattle.scm_types.specs.declared.tristate.Tristate.{Tristate}
use Rattle.scm_types.specs.declared.tristate.Tristate.TheVariants.{False, Partial, True}

-- whether none, some or all of `items` items are checked, if `checked` are
abbrev pub tristate_by : ℕ → ℕ → Tristate
tristate_by checked items = if checked == 0 then False else if checked == items then True else Partial
