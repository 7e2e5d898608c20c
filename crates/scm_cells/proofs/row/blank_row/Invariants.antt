use Rattle.std.proofs.Common.{◌≡◌, replicate}
use Rattle.scm_cells.specs.Cell.{blank}
use Rattle.scm_cells.proofs.row.blank_row.Given as goal

abbrev pub invariant-columns : goal.invariant-columns
invariant-columns l = l.row.items ≡ replicate l.counter blank
