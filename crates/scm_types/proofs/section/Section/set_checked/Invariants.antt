use Rattle.std.proofs.Common.{◌≡◌, map, take, drop, ◌++◌}
use Rattle.scm_types.specs.Marks.{line_with_mark}
use Rattle.scm_types.proofs.section.Section.set_checked.Given as goal

abbrev pub invariant-loop-line : goal.invariant-loop-line
invariant-loop-line l = l.line-items ≡ map (line_with_mark (λ _. l.checked)) (take l.line-index l.initial.line-items) ++ drop l.line-index l.initial.line-items
