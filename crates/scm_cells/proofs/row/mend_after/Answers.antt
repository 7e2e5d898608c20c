use Rattle.std.proofs.Common.{arith, sym, ◌∙◌, get_or}
use Rattle.scm_cells.proofs.MapFrom.{so_far-more, so_far-all}
use Rattle.scm_cells.proofs.RowLemmas.{kept_after, all-kept_after, after-cut, after-whole}
use Rattle.scm_cells.proofs.row.mend_after.Goals as goal
use Rattle.scm_cells.proofs.row.mend_after.Goals.{then-offset-index, else-offset-index}

pub loop-column-preserved : goal.loop-column-preserved
loop-column-preserved c =
    let p = get_or c.loop-column.columns c.loop-column.column-index c.column-item.result in
    record {
      index = omega arith;
      columns = elim c.if-offset-index.branch [
        | then-offset-index w ↦ w.columns-is ∙ so_far-more kept_after _ _ _ c.column-item.result _ (omega arith) c.loop-column.invariant.columns
            (w.clear.ensures ∙ after-cut c.loop-column.column-index p (omega arith))
        | else-offset-index w ↦ w.columns-is ∙ so_far-more kept_after _ _ _ c.column-item.result _ (omega arith) c.loop-column.invariant.columns
            (after-whole c.loop-column.column-index p (omega arith))
      ];
    }

pub returns : goal.returns
returns c = c.loop-column.invariant.columns ∙ so_far-all kept_after c.args.columns.now c.loop-column.column-index (omega arith) ∙ all-kept_after 0 _

pub returns-then-is_whole : goal.returns-then-is_whole
returns-then-is_whole c = sym (c.requires c.if-is_whole.true)
