use Rattle.scm_layout_index.proofs.FitLemmas.{state-fit}
use Rattle.scm_layout_index.proofs.shared_rows.SharedRows.new.Goals as goal

pub invariant_of-result : goal.invariant_of-result
invariant_of-result c =
    rw (c.in_ok-rows.ensures.ok, c.in_ok-files.ensures, c.as_slice.ensures) (state-fit c.args.rows.now c.requires)
