use Rattle.std.proofs.Common.{arith, ◌∙◌, ap, get_or}
use Rattle.scm_cells.specs.Cell.{byte_cell}
use Rattle.scm_cells.proofs.MapFrom.{so_far-more, so_far-all}
use Rattle.scm_cells.proofs.ByteLemmas.{byte_written, all-written, printable-at}
use Rattle.scm_cells.proofs.row.write_bytes.Goals as goal

pub set_byte-requires : goal.set_byte-requires
set_byte-requires c = printable-at c.args.bytes.now c.loop-column.index c.requires.printable (omega arith)

pub loop-column-preserved : goal.loop-column-preserved
loop-column-preserved c = record {
  index = omega arith;
  columns = so_far-more (byte_written c.args.bytes.now) _ _ _ c.column-item.result _ (omega arith) c.loop-column.invariant.columns
      (c.set_byte.ensures ∙ ap (λ i. byte_cell (get_or c.args.bytes.now i 0)) c.loop-column.invariant.index);
}

pub returns : goal.returns
returns c =
    c.loop-column.invariant.columns ∙ so_far-all (byte_written c.args.bytes.now) c.args.columns.now c.loop-column.column-index (omega arith)
    ∙ all-written c.args.bytes.now c.args.columns.now c.requires.size
