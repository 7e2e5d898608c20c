use Rattle.std.proofs.Common.{◌≡◌, map, take, drop, ◌++◌}
use Rattle.scm_types.specs.Marks.{section_with_marks}
use Rattle.scm_types.proofs.file.File.set_checked.Given as goal

abbrev pub invariant-loop-section : goal.invariant-loop-section
invariant-loop-section l = l.section-items ≡ map (section_with_marks (λ _. l.checked)) (take l.section-index l.initial.section-items) ++ drop l.section-index l.initial.section-items
