use Rattle.std.proofs.Common.{◌≡◌}
use Rattle.scm_cells.proofs.MapFrom.{so_far}
use Rattle.scm_cells.proofs.ScreenLemmas.{cleared_row}
use Rattle.scm_cells.proofs.grid.Grid.clear.Given as goal

abbrev pub invariant-rows : goal.invariant-rows
invariant-rows l = l.cells-items ≡ so_far cleared_row l.initial.cells-items l.cells-index
