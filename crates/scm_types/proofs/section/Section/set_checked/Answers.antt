use Rattle.std.proofs.Common.{arith}
use Rattle.std.proofs.lemmas.List.Edits.{map_over_more}
use Rattle.scm_types.specs.Marks.{line_with_mark}
use Rattle.scm_types.proofs.section.Section.set_checked.Goals as goal

pub loop-line-preserved : goal.loop-line-preserved
loop-line-preserved c =
    rw (← c.line-item.is) (map_over_more (line_with_mark (λ _. c.args.checked)) _ _ _ _ (omega arith) c.loop-line.invariant c.line-item.is)
