use Rattle.std.proofs.Common.{arith}
use Rattle.std.proofs.lemmas.List.Edits.{map_over_more}
use Rattle.scm_types.specs.Marks.{file_with_marks}
use Rattle.scm_selection.proofs.toggles.mark_all.Goals as goal

pub loop-file-preserved : goal.loop-file-preserved
loop-file-preserved c =
    rw (c.set_checked.ensures, ← c.file-item.is) (map_over_more (file_with_marks (λ _. c.args.checked)) _ _ _ _ (omega arith) c.loop-file.invariant c.file-item.is)
