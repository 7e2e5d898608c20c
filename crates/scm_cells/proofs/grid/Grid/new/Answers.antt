use Rattle.std.proofs.Common.{◌∙◌, ap, arith, length}
use Rattle.std.proofs.lemmas.List.{length-replicate}
use Rattle.std.specs.Prelude.{List}
use Rattle.scm_cells.specs.Cell.{Cell, blank}
use Rattle.scm_cells.specs.Counts.{no_counts}
use Rattle.scm_cells.specs.Screen.{blank_screen}
use Rattle.scm_cells.proofs.ScreenLemmas.{IsScreen-blank, IsScreen-same}
use Rattle.scm_cells.proofs.grid.Grid.new.Goals as goal

pub invariant_of-result : goal.invariant_of-result
invariant_of-result c = record {
  screen = IsScreen-same _ (blank_screen c.args.width c.rows.counter) (ap (λ (rows : List (List Cell)). record { width = c.args.width; rows = rows; counts = no_counts }) c.rows.invariant)
      (IsScreen-blank c.args.width c.rows.counter (omega arith) (omega arith));
  laid = ap length c.in_ok-laid.ensures ∙ length-replicate c.args.width blank;
}
