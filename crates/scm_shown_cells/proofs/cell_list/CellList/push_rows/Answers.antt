use Rattle.std.proofs.Common.{◌+◌, ◌-◌, ◌<◌, map, length, arith}
use Rattle.std.specs.List.{range_with_len}
use Rattle.scm_terminal.specs.StyledCell.{picture, styled_row}
use Rattle.scm_shown_cells.proofs.CellLemmas.{one-more, rows-more}
use Rattle.scm_shown_cells.proofs.cell_list.CellList.push_rows.Goals as goal

pub loop-row-preserved : goal.loop-row-preserved
loop-row-preserved g c =
    let style = g.S.Styles.styled c.args.styles.now in
    let grid = c.args.grid.now in
    let row = c.loop-row.row in
    let high = c.height-row-end.ensures.value in
    let inside = c.loop-row-test.true in
    rows-more (picture style grid) (map (styled_row style grid) (range_with_len row (length grid.rows - row)))
    (map (styled_row style grid) (range_with_len (row + 1) (length grid.rows - (row + 1)))) (styled_row style grid row) c.args.self.now c.loop-row.self c.push_row.new.self
    (one-more (styled_row style grid) row (length grid.rows) (omega arith)) c.in_ok-push_row.ensures c.loop-row.invariant
