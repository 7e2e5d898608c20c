use Rattle.std.proofs.Common.{◌≡◌, ◌++◌, map, take, drop, true}
use Rattle.scm_selection.specs.Toggle.{with_changed_set}
use Rattle.scm_selection.proofs.toggles.check_all_changed.Given as goal

-- the sections so far are set
abbrev pub invariant-loop-section : goal.invariant-loop-section
invariant-loop-section l = l.sections ≡ map (with_changed_set true) (take l.section-index l.fn.sections) ++ drop l.section-index l.fn.sections
