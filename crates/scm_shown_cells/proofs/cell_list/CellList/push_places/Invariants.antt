use Rattle.std.proofs.Common.{◌-◌, map}
use Rattle.std.specs.List.{range_with_len}
use Rattle.scm_terminal.specs.StyledCell.{cell_in, row_in}
use Rattle.scm_shown_cells.proofs.CellLemmas.{Left}
use Rattle.scm_shown_cells.proofs.cell_list.CellList.push_places.Given as goal

abbrev pub invariant-loop-column : goal.invariant-loop-column
invariant-loop-column l =
    Left (row_in l.styles l.grid l.row) (map (cell_in l.styles l.grid l.row) (range_with_len l.column (l.grid.width - l.column))) l.fn.self l.self
