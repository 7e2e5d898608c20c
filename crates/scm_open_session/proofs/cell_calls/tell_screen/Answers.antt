use Rattle.std.proofs.Common.{ℕ, List, ap, ◌∙◌}
use Rattle.scm_shown_cells.specs.Cells.{cells_over}
use Rattle.scm_shown_cells.specs.declared.cell.Cell.{Cell}
use Rattle.scm_c_values.specs.Buffers.{over}
use Rattle.scm_open_session.proofs.cell_calls.tell_screen.Goals as goal

pub returns : goal.returns
returns c = record {
  cells_written = c.write_cells.ensures ∙ ap (λ (cells : List Cell). cells_over cells c.args.cells.now) c.as_slice.ensures.value;
  text_written = c.write_text-len.ensures.written ∙ ap (λ (text : List ℕ). over text c.args.out.now) c.as_bytes.ensures.value;
  columns_told = c.info.ensures.columns;
  rows_told = c.info.ensures.rows;
  length_told = c.info.ensures.len;
}
