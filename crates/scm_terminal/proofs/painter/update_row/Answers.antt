use Rattle.std.proofs.Common.{◌∙◌, ap}
use Rattle.std.proofs.lemmas.Result.{on_ok_weaker}
use Rattle.scm_terminal.specs.StyledCell.{row_of_styles}
use Rattle.scm_terminal.proofs.ShowingLemmas.{row-styled}
use Rattle.scm_terminal.proofs.painter.update_row.Goals as goal

pub returns-clause-cells : goal.returns-clause-cells
returns-clause-cells g c =
    let style = g.S.Styles.styled c.args.styles.now in
    on_ok_weaker c.update.result (λ e.
    e ∙ row-styled style c.args.grid.now c.args.row c.row_styles.new.styles (c.row_styles.ensures ∙ ap (row_of_styles style c.args.row) c.requires.room))
    c.update.ensures.cells
