use Rattle.scm_strips.specs.ShownRows.{row_of}
use Rattle.scm_strips.proofs.RowLemmas.{begun, on-ok}
use Rattle.scm_strips.proofs.paint.paint_row.Goals as goal

pub returns-clause-ok : goal.returns-clause-ok
returns-clause-ok c = on-ok c.draw_row.result (λ p. begun c.args.area c.args.row (row_of c.args.what.now) _ _ _ c.add_row.ensures p) c.draw_row.ensures.ok
