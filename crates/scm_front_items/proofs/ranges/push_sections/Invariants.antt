use Rattle.std.proofs.Common.{◌≡◌, ◌++◌, drop}
use Rattle.std.specs.Prelude.{filter}
use Rattle.scm_selection.specs.KeyLists.{sections_keys}
use Rattle.scm_front_items.specs.Ranges.{is_in_range}
use Rattle.scm_front_items.proofs.ranges.push_sections.Given as goal

-- the lines so far and those of the sections that are left are all
abbrev pub invariant-loop-index : goal.invariant-loop-index
invariant-loop-index l =
    l.keys.items ++ filter (is_in_range l.a l.b) (sections_keys l.file l.index (drop l.index l.sections))
    ≡ l.fn.keys.items ++ filter (is_in_range l.a l.b) (sections_keys l.file 0 l.sections)
