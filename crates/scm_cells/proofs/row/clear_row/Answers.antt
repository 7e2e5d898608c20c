use Rattle.std.proofs.Common.{arith, ◌∙◌}
use Rattle.scm_cells.proofs.MapFrom.{so_far-more, so_far-all}
use Rattle.scm_cells.proofs.RowLemmas.{cleared, all-cleared}
use Rattle.scm_cells.proofs.row.clear_row.Goals as goal

pub loop-column-preserved : goal.loop-column-preserved
loop-column-preserved c = so_far-more cleared _ _ _ c.column-item.result _ (omega arith) c.loop-column.invariant c.clear.ensures

pub returns : goal.returns
returns c = c.loop-column.invariant ∙ so_far-all cleared c.args.columns.now c.loop-column.column-index (omega arith) ∙ all-cleared 0 _
