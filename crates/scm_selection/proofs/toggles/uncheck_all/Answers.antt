use Rattle.std.proofs.Common.{arith, false}
use Rattle.std.proofs.lemmas.List.Edits.{map_over_more}
use Rattle.scm_types.specs.Marks.{section_with_marks}
use Rattle.scm_selection.proofs.toggles.uncheck_all.Goals as goal

pub loop-section-preserved : goal.loop-section-preserved
loop-section-preserved c =
    rw (c.set_checked.ensures, ← c.section-item.is) (map_over_more (section_with_marks (λ _. false)) _ _ _ _ (omega arith) c.loop-section.invariant c.section-item.is)
