use Rattle.std.proofs.Common.{arith}
use Rattle.std.proofs.lemmas.List.Edits.{map_over_more}
use Rattle.scm_selection.specs.Toggle.{with_file_inverted}
use Rattle.scm_selection.proofs.toggles.invert_all.Goals as goal

pub loop-file-preserved : goal.loop-file-preserved
loop-file-preserved c =
    rw (c.invert.ensures, ← c.file-item.is) (map_over_more with_file_inverted _ _ _ _ (omega arith) c.loop-file.invariant c.file-item.is)
