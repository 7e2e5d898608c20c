use Rattle.std.proofs.Common.{◌≡◌, ◌+◌, length}
use Rattle.scm_cells.proofs.MapFrom.{so_far}
use Rattle.scm_cells.proofs.RowLemmas.{kept_before}
use Rattle.scm_cells.proofs.row.mend_before.Given as goal

abbrev pub invariant-loop-column : goal.invariant-loop-column
invariant-loop-column l = record { left : l.left + l.column-index ≡ length l.initial.columns; columns : l.columns ≡ so_far (kept_before (length l.initial.columns)) l.initial.columns l.column-index }
