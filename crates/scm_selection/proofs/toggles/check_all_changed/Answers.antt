use Rattle.std.proofs.Common.{arith, true}
use Rattle.std.proofs.lemmas.List.Edits.{map_over_more}
use Rattle.scm_selection.specs.Toggle.{with_changed_set}
use Rattle.scm_selection.proofs.toggles.check_all_changed.Goals as goal

pub loop-section-preserved : goal.loop-section-preserved
loop-section-preserved c =
    rw (c.set_changed.ensures, ← c.section-item.is) (map_over_more (with_changed_set true) _ _ _ _ (omega arith) c.loop-section.invariant c.section-item.is)
