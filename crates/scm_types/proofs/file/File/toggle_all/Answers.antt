use Rattle.std.proofs.Common.{not, arith}
use Rattle.std.proofs.lemmas.List.Edits.{map_over_more}
use Rattle.scm_types.specs.Marks.{section_with_marks}
use Rattle.scm_types.proofs.file.File.toggle_all.Goals as goal

pub loop-section-preserved : goal.loop-section-preserved
loop-section-preserved c =
    rw (c.toggle_all.ensures, ← c.section-item.is) (map_over_more (section_with_marks not) _ _ _ _ (omega arith) c.loop-section.invariant c.section-item.is)
