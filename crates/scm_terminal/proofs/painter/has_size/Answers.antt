use Rattle.scm_terminal.specs.PainterView.{cells_of_row}
use Rattle.scm_terminal.proofs.ShowingLemmas.{sized}
use Rattle.scm_terminal.proofs.painter.has_size.Goals as goal

pub returns : goal.returns
returns c = sized cells_of_row c.args.rows.now c.args.width c.args.height c.are_wide-is_width.result c.are_wide-is_width.ensures
