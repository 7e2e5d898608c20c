use Rattle.std.proofs.Common.{◌≡◌, ◌++◌, map, take, drop}
use Rattle.scm_types.specs.Repair.{with_deletion_unchecked}
use Rattle.scm_types.proofs.repair.uncheck_deletions.Given as goal

-- the sections so far are set
abbrev pub invariant-loop-section : goal.invariant-loop-section
invariant-loop-section l = l.sections ≡ map with_deletion_unchecked (take l.section-index l.fn.sections) ++ drop l.section-index l.fn.sections
