use Rattle.std.proofs.Common.{◌≡◌, ◌++◌, drop}
use Rattle.std.specs.Prelude.{filter}
use Rattle.scm_selection.specs.KeyLists.{line_keys}
use Rattle.scm_front_items.specs.Ranges.{is_in_range}
use Rattle.scm_front_items.proofs.ranges.push_lines.Given as goal

-- the lines so far and those that are left are all
abbrev pub invariant-loop-line : goal.invariant-loop-line
invariant-loop-line l =
    l.keys.items ++ filter (is_in_range l.a l.b) (line_keys l.file l.section l.line (drop l.line l.lines))
    ≡ l.fn.keys.items ++ filter (is_in_range l.a l.b) (line_keys l.file l.section 0 l.lines)
