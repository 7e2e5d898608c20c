use Rattle.std.proofs.Common.{subst, sym}
use Rattle.scm_cells.specs.Tail.{IsBlankFrom}
use Rattle.scm_cells.proofs.TailLemmas.{IsBlankFrom-blanks}
use Rattle.scm_cells.proofs.grid_row.GridRow.new.Goals as goal

pub invariant_of-result : goal.invariant_of-result
invariant_of-result c = subst (IsBlankFrom 0) (sym c.in_ok-columns.ensures) (IsBlankFrom-blanks 0 c.args.width)
