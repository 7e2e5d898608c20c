use Rattle.std.proofs.Common.{arith, ◌∙◌, get_or}
use Rattle.scm_cells.proofs.MapFrom.{so_far-more, so_far-all}
use Rattle.scm_cells.proofs.RowLemmas.{continued, all-continued, continued-at}
use Rattle.scm_cells.proofs.row.lay_rest.Goals as goal

pub loop-column-preserved : goal.loop-column-preserved
loop-column-preserved c = record {
  offset = omega arith;
  columns = so_far-more (continued c.args.width) _ _ _ c.column-item.result _ (omega arith) c.loop-column.invariant.columns
      (c.set_later.ensures ∙ continued-at c.args.width c.loop-column.column-index _ (get_or c.loop-column.columns c.loop-column.column-index c.column-item.result) c.loop-column.invariant.offset);
}

pub returns : goal.returns
returns c =
    c.loop-column.invariant.columns ∙ so_far-all (continued c.args.width) c.args.columns.now c.loop-column.column-index (omega arith) ∙ all-continued c.args.width _
