use Rattle.std.proofs.Common.{◌≡◌, ◌++◌, ◌-◌, drop, take}
use Rattle.scm_types.specs.Marks.{section_marks}
use Rattle.scm_front_items.proofs.steps.push_marks.Given as goal

-- the marks so far and those that are left are all
abbrev pub invariant-loop-index : goal.invariant-loop-index
invariant-loop-index l =
    l.marks ++ take (l.fn.count - (l.index - l.fn.first)) (drop l.index (section_marks l.section))
    ≡ l.fn.marks ++ take l.fn.count (drop l.fn.first (section_marks l.section))
