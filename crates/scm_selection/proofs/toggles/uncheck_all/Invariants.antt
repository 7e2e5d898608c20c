use Rattle.std.proofs.Common.{◌≡◌, ◌++◌, map, take, drop, false}
use Rattle.scm_types.specs.Marks.{section_with_marks}
use Rattle.scm_selection.proofs.toggles.uncheck_all.Given as goal

-- the sections so far are set
abbrev pub invariant-loop-section : goal.invariant-loop-section
invariant-loop-section l = l.sections ≡ map (section_with_marks (λ _. false)) (take l.section-index l.fn.sections) ++ drop l.section-index l.fn.sections
