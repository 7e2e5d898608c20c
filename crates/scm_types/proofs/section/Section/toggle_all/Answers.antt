use Rattle.std.proofs.Common.{not, arith}
use Rattle.std.proofs.lemmas.List.Edits.{map_over_more}
use Rattle.scm_types.specs.Marks.{line_with_mark}
use Rattle.scm_types.proofs.section.Section.toggle_all.Goals as goal

pub loop-line-preserved : goal.loop-line-preserved
loop-line-preserved c =
    rw (← c.line-item.is) (map_over_more (line_with_mark not) _ _ _ _ (omega arith) c.loop-line.invariant c.line-item.is)
