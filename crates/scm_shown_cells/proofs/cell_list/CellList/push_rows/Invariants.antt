use Rattle.std.proofs.Common.{◌-◌, length, map}
use Rattle.std.specs.List.{range_with_len}
use Rattle.scm_terminal.specs.StyledCell.{picture, styled_row}
use Rattle.scm_shown_cells.proofs.CellLemmas.{LeftRows}
use Rattle.scm_shown_cells.proofs.cell_list.CellList.push_rows.Given as goal

abbrev pub invariant-loop-row : goal.invariant-loop-row
invariant-loop-row g l =
    let style = g.S.Styles.styled l.styles in
    LeftRows (picture style l.grid) (map (styled_row style l.grid) (range_with_len l.row (length l.grid.rows - l.row))) l.fn.self l.self
