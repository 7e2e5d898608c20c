use Rattle.std.proofs.Common.{◌≡◌, not, map, take, drop, ◌++◌}
use Rattle.scm_types.specs.Marks.{line_with_mark}
use Rattle.scm_types.proofs.section.Section.toggle_all.Given as goal

abbrev pub invariant-loop-line : goal.invariant-loop-line
invariant-loop-line l = l.line-items ≡ map (line_with_mark not) (take l.line-index l.initial.line-items) ++ drop l.line-index l.initial.line-items
