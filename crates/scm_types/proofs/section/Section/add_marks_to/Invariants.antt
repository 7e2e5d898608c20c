use Rattle.std.proofs.Common.{◌≡◌, map, take}
use Rattle.scm_types.specs.declared.line.SectionChangedLine.{SectionChangedLine}
use Rattle.scm_types.specs.Seen.{with_marks}
use Rattle.scm_types.proofs.section.Section.add_marks_to.Given as goal

abbrev pub invariant-loop-line : goal.invariant-loop-line
invariant-loop-line l = l.seen ≡ with_marks l.fn.before (map (λ (x : SectionChangedLine). x.is_checked) (take l.line-index l.line-items))
