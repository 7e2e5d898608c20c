use Rattle.std.proofs.Common.{◌≡◌, ◌++◌, drop, map}
use Rattle.scm_types.specs.declared.line.SectionChangedLine.{SectionChangedLine}
use Rattle.scm_front_items.proofs.runs.push_line_marks.Given as goal

-- the marks so far and those of the lines that are left are all
abbrev pub invariant-loop-line : goal.invariant-loop-line
invariant-loop-line l =
    l.marks ++ map (λ (line : SectionChangedLine). line.is_checked) (drop l.line-index l.lines)
    ≡ l.fn.marks ++ map (λ (line : SectionChangedLine). line.is_checked) l.lines
