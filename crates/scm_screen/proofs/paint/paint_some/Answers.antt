use Rattle.std.proofs.Common.{ap, sym, subst}
use Rattle.scm_cells.specs.Counts.{Counts}
use Rattle.scm_cells.specs.Screen.{Screen}
use Rattle.scm_strips.specs.ShownRows.{row_of}
use Rattle.scm_strips.proofs.RowLemmas.{on-ok}
use Rattle.scm_screen.specs.DocumentRows.{AreFew}
use Rattle.scm_screen.proofs.EachLemmas.{one-few}
use Rattle.scm_screen.proofs.paint.paint_some.Goals as goal

pub returns-in-Some-clause-few : goal.returns-in-Some-clause-few
returns-in-Some-clause-few c =
    let before = c.args.grid.now.counts in
    on-ok _
    (λ p. subst (λ (k : Counts). AreFew 1 before k) (sym (ap (λ (g : Screen). g.counts) p)) (one-few before (row_of c.in-Some.what)))
    c.paint_row.ensures.ok
