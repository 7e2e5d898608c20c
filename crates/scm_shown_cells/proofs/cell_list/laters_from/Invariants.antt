use Rattle.std.proofs.Common.{◌≡◌, ◌+◌, ◌-◌}
use Rattle.scm_cells.specs.Symbols.{symbol_at}
use Rattle.scm_shown_cells.specs.Cells.{laters_from}
use Rattle.scm_shown_cells.proofs.cell_list.laters_from.Given as goal

abbrev pub invariant-loop-place : goal.invariant-loop-place
invariant-loop-place l =
    (l.place - l.column) + laters_from (symbol_at l.grid.rows l.row) l.place (l.grid.width - l.place)
    ≡ laters_from (symbol_at l.grid.rows l.row) l.column (l.grid.width - l.column)
