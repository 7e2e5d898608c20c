use Rattle.std.proofs.Common.{◌≡◌, ◌∙◌, ◌+◌, ◌-◌, ◌<◌, arith, sym, ap, length}
use borrow.Rule.Slice.PartMut.{put_mid}
use Rattle.scm_cells.proofs.RowLemmas.{over-mended, overlay-none}
use Rattle.scm_cells.proofs.row.show.Goals as goal

pub returns-then-width-gt0 : goal.returns-then-width-gt0
returns-then-width-gt0 c =
    let from = c.args.from in
    let end = from + length c.args.laid.now in
    let some : from < end = omega arith in
    let size : length c.args.laid.now ≡ end - from = omega arith in
    ap (put_mid from (end - from) c.mend_around.new.columns) c.swap_with_slice.ensures.after
    ∙ over-mended c.args.columns.now c.mend_around.new.columns c.args.laid.now from end some size c.mend_around.ensures.front c.mend_around.ensures.back

pub returns-else-width-gt0 : goal.returns-else-width-gt0
returns-else-width-gt0 c = sym (overlay-none _ _ _ (omega arith))
