use Rattle.std.proofs.Common.{◌≡◌}
use Rattle.scm_cells.proofs.MapFrom.{so_far}
use Rattle.scm_cells.proofs.RowLemmas.{cleared}
use Rattle.scm_cells.proofs.row.clear_row.Given as goal

abbrev pub invariant-loop-column : goal.invariant-loop-column
invariant-loop-column l = l.columns ≡ so_far cleared l.initial.columns l.column-index
