use Rattle.std.proofs.Common.{◌≡◌, ◌∙◌, ◌+◌, ◌-◌, ◌<◌, arith, ap, length, map}
use Rattle.std.proofs.lemmas.List.{length-map}
use Rattle.scm_cells.specs.Cell.{byte_cell}
use Rattle.scm_cells.proofs.RowLemmas.{over-mended}
use borrow.Rule.Slice.PartMut.{put_mid}
use Rattle.scm_cells.proofs.row.write_over.Goals as goal

pub returns : goal.returns
returns c =
    let from = c.args.from in
    let end = from + length c.args.bytes.now in
    let some : from < end = omega (arith, c.requires.some) in
    let size : length (map byte_cell c.args.bytes.now) ≡ end - from = length-map c.args.bytes.now byte_cell ∙ omega arith in
    ap (put_mid from (end - from) c.mend_around.new.columns) c.write_bytes.ensures
    ∙ over-mended c.args.columns.now c.mend_around.new.columns (map byte_cell c.args.bytes.now) from end some size c.mend_around.ensures.front c.mend_around.ensures.back
