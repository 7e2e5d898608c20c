use Rattle.std.proofs.Common.{◌≡◌}
use Rattle.scm_cells.proofs.MapFrom.{so_far}
use Rattle.scm_cells.proofs.ByteLemmas.{byte_written}
use Rattle.scm_cells.proofs.row.write_bytes.Given as goal

abbrev pub invariant-loop-column : goal.invariant-loop-column
invariant-loop-column l = record { index : l.index ≡ l.column-index; columns : l.columns ≡ so_far (byte_written l.bytes) l.initial.columns l.column-index }
