use Rattle.std.proofs.Common.{arith}
use Rattle.std.proofs.lemmas.List.Edits.{map_over_more}
use Rattle.scm_types.specs.Repair.{with_mode_checked}
use Rattle.scm_types.proofs.repair.check_modes.Goals as goal

pub loop-section-preserved : goal.loop-section-preserved
loop-section-preserved c =
    rw (c.check_mode.ensures, ← c.section-item.is) (map_over_more with_mode_checked _ _ _ _ (omega arith) c.loop-section.invariant c.section-item.is)
