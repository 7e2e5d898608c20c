use Rattle.std.proofs.Common.{◌∙◌}
use Rattle.scm_front_paint.proofs.CutLemmas.{cut-more}
use Rattle.scm_front_paint.proofs.cut.cut_rows.Goals as goal

pub loop-row-preserved : goal.loop-row-preserved
loop-row-preserved c =
    let ok = c.in_ok-cut_row.ensures.ok in
    let keeps = c.in_ok-cut_row.ensures.others in
    record { width = keeps.width ∙ c.loop-row.invariant.width; height = keeps.height ∙ c.loop-row.invariant.height; rows = cut-more _ _ _ _ _ keeps ok c.loop-row.invariant.rows }
