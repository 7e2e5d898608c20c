use Rattle.std.proofs.Common.{arith, sym, ◌∙◌, ◌-◌, ◌≡◌, length, get_or}
use Rattle.scm_cells.proofs.MapFrom.{so_far-more, so_far-all}
use Rattle.scm_cells.proofs.RowLemmas.{kept_before, all-kept_before, before-cut, before-whole}
use Rattle.scm_cells.proofs.row.mend_before.Goals as goal
use Rattle.scm_cells.proofs.row.mend_before.Goals.{then-columns_left-left, else-columns_left-left}

pub loop-column-preserved : goal.loop-column-preserved
loop-column-preserved c =
    let n = length c.args.columns.now in
    let p = get_or c.loop-column.columns c.loop-column.column-index c.column-item.result in
    let left : c.loop-column.left ≡ n - c.loop-column.column-index = omega arith in
    record {
      left = omega arith;
      columns = elim c.if-columns_left-left.branch [
        | then-columns_left-left w ↦ w.columns-is ∙ so_far-more (kept_before n) _ _ _ c.column-item.result _ (omega arith) c.loop-column.invariant.columns
            (w.clear.ensures ∙ before-cut n c.loop-column.column-index p (omega arith))
        | else-columns_left-left w ↦ w.columns-is ∙ so_far-more (kept_before n) _ _ _ c.column-item.result _ (omega arith) c.loop-column.invariant.columns
            (before-whole n c.loop-column.column-index p (omega arith))
      ];
    }

pub returns : goal.returns
returns c =
    c.loop-column.invariant.columns ∙ so_far-all (kept_before (length c.args.columns.now)) c.args.columns.now c.loop-column.column-index (omega arith)
    ∙ all-kept_before _ _ (omega arith)

pub returns-then-is_whole : goal.returns-then-is_whole
returns-then-is_whole c = sym (c.requires c.if-is_whole.true)
