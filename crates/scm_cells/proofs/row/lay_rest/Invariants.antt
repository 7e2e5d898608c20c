use Rattle.std.proofs.Common.{◌≡◌, ◌+◌}
use Rattle.scm_cells.proofs.MapFrom.{so_far}
use Rattle.scm_cells.proofs.RowLemmas.{continued}
use Rattle.scm_cells.proofs.row.lay_rest.Given as goal

abbrev pub invariant-loop-column : goal.invariant-loop-column
invariant-loop-column l = record { offset : l.offset ≡ l.column-index + 1; columns : l.columns ≡ so_far (continued l.width) l.initial.columns l.column-index }
