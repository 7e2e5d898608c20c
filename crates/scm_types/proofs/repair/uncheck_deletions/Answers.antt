use Rattle.std.proofs.Common.{arith}
use Rattle.std.proofs.lemmas.List.Edits.{map_over_more}
use Rattle.scm_types.specs.Repair.{with_deletion_unchecked}
use Rattle.scm_types.proofs.repair.uncheck_deletions.Goals as goal

pub loop-section-preserved : goal.loop-section-preserved
loop-section-preserved c =
    rw (c.uncheck_deletion.ensures, ← c.section-item.is) (map_over_more with_deletion_unchecked _ _ _ _ (omega arith) c.loop-section.invariant c.section-item.is)
