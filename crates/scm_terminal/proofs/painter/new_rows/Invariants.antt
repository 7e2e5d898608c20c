use Rattle.std.proofs.Common.{map}
use Rattle.scm_terminal.specs.PainterView.{cells_of_row}
use Rattle.scm_terminal.specs.StyledCell.{HasSize}
use Rattle.scm_terminal.proofs.painter.new_rows.Given as goal

abbrev pub invariant-loop : goal.invariant-loop
invariant-loop l = HasSize l.width l.counter (map cells_of_row l.rows.items)
