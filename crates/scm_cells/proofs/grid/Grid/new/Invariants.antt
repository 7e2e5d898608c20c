use Rattle.std.proofs.Common.{◌≡◌, replicate}
use Rattle.scm_cells.specs.Cell.{blank}
use Rattle.scm_cells.proofs.grid.Grid.new.Given as goal

abbrev pub invariant-rows : goal.invariant-rows
invariant-rows l = l.rows.items ≡ replicate l.counter (replicate l.width blank)
