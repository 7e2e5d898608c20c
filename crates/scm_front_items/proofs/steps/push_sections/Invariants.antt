use Rattle.std.proofs.Common.{◌≡◌, ◌++◌, drop}
use Rattle.scm_front_items.specs.Steps.{sections_runs}
use Rattle.scm_front_items.proofs.steps.push_sections.Given as goal

-- the runs so far and those of the sections that are left are all
abbrev pub invariant-loop-index : goal.invariant-loop-index
invariant-loop-index l =
    l.runs ++ sections_runs l.modes_alone l.file l.index (drop l.index l.sections)
    ≡ l.fn.runs ++ sections_runs l.modes_alone l.file 0 l.sections
