use Rattle.std.proofs.Common.{◌≡◌, ◌++◌, take, map}
use Rattle.scm_types.specs.declared.line.SectionChangedLine.{SectionChangedLine}
use Rattle.scm_c_values.specs.States.{byte_of_mark}
use Rattle.scm_c_values.proofs.items.push_lines.Given as goal

abbrev pub invariant-loop-line : goal.invariant-loop-line
invariant-loop-line l = l.marks.items ≡ l.fn.marks.items ++ map (λ (c : SectionChangedLine). byte_of_mark c.is_checked) (take l.line-index l.lines)
