use Rattle.std.proofs.Common.{◌≡◌, ◌-◌, ◌^◌, min, take}
use Rattle.std.specs.Prelude.{sum_by}
use Rattle.scm_layout.specs.Marked.{checked_in_section}
use Rattle.scm_layout.proofs.marked.checked_in_sections.Given as goal

abbrev pub invariant-loop-index : goal.invariant-loop-index
invariant-loop-index l = l.total ≡ min (sum_by checked_in_section (take l.index l.sections)) (2 ^ 64 - 1)
