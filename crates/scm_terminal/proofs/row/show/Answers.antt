use Rattle.std.proofs.Common.{◌∙◌, arith}
use Rattle.scm_terminal.specs.StyledCell.{cell_in}
use Rattle.scm_terminal.proofs.ShowingLemmas.{all_shown}
use Rattle.scm_terminal.proofs.row.show.Goals as goal

pub returns : goal.returns
returns c =
    all_shown (cell_in c.args.styles.now c.args.grid.now c.args.row) c.loop-cell.cells c.args.grid.now.width (c.loop-cell.auto.cells ∙ c.requires.cells)
    (λ k h. c.loop-cell.invariant.shown k (let size = c.requires.cells in omega arith))
