use Rattle.std.proofs.Common.{◌≡◌}
use Rattle.scm_cells.proofs.MapFrom.{so_far}
use Rattle.scm_cells.proofs.RowLemmas.{kept_after}
use Rattle.scm_cells.proofs.row.mend_after.Given as goal

abbrev pub invariant-loop-column : goal.invariant-loop-column
invariant-loop-column l = record { index : l.index ≡ l.column-index; columns : l.columns ≡ so_far kept_after l.initial.columns l.column-index }
