use Rattle.std.proofs.Common.{◌∙◌, ap}
use Rattle.std.proofs.lemmas.Result.{on_ok_weaker}
use Rattle.scm_terminal.specs.StyledCell.{row_in, row_of_styles, styled_row}
use Rattle.scm_terminal.proofs.ShowingLemmas.{row-styled}
use Rattle.scm_shown_cells.proofs.CellLemmas.{adds-as}
use Rattle.scm_shown_cells.proofs.cell_list.CellList.push_styled.Goals as goal

pub returns : goal.returns
returns g c =
    let style = g.S.Styles.styled c.args.styles.now in
    let grid = c.args.grid.now in
    let row = c.args.row in
    let same = row-styled style grid row c.row_styles.new.styles (c.row_styles.ensures ∙ ap (row_of_styles style row) c.requires) in
    on_ok_weaker c.push_places.result
    (λ adds. adds-as (row_in c.row_styles.new.styles grid row) (styled_row style grid row) c.args.self.now c.push_places.new.self same adds) c.push_places.ensures
