use Rattle.std.proofs.Common.{◌≡◌, ◌++◌, drop}
use Rattle.std.specs.Prelude.{filter}
use Rattle.scm_selection.specs.KeyLists.{files_keys}
use Rattle.scm_front_items.specs.Ranges.{is_in_range}
use Rattle.scm_front_items.proofs.ranges.lines_between.Given as goal

-- the lines so far and those of the files that are left are all
abbrev pub invariant-loop-index : goal.invariant-loop-index
invariant-loop-index l =
    l.keys.items ++ filter (is_in_range l.a l.b) (files_keys l.index (drop l.index l.files))
    ≡ filter (is_in_range l.a l.b) (files_keys 0 l.files)
