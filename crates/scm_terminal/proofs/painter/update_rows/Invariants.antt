use Rattle.std.proofs.Common.{◌≡◌, length, map}
use Rattle.scm_terminal.specs.StyledCell.{styled_row}
use Rattle.scm_terminal.specs.RowView.{line_of}
use Rattle.scm_terminal.specs.PainterView.{cells_of_row}
use Rattle.scm_terminal.proofs.UpdateLemmas.{Updated}
use Rattle.scm_terminal.proofs.painter.update_rows.Given as goal

abbrev pub invariant-loop-shown : goal.invariant-loop-shown
invariant-loop-shown g l = record {
  row : l.row ≡ l.shown-index;
  room : length l.room ≡ l.grid.width;
  rows : Updated (styled_row (g.S.Styles.styled l.styles) l.grid) l.is_all (map cells_of_row l.initial.rows) (map line_of l.rows) l.shown-index;
}
