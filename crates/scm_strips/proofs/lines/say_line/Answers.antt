use Rattle.std.proofs.Common.{◌∙◌}
use Rattle.scm_cells.specs.Replaced.{line_pieces}
use Rattle.scm_document.specs.Rows.{line_texts}
use Rattle.std.specs.Prelude.{pos}
use Rattle.scm_render.specs.Rows.{say_texts}
use Rattle.scm_strips.proofs.RowLemmas.{called, on-ok, row-after, row-end, row-then}
use Rattle.scm_strips.proofs.TextLemmas.{reached-then}
use Rattle.scm_strips.proofs.lines.say_line.Goals as goal

pub returns-clause-ok : goal.returns-clause-ok
returns-clause-ok c =
    let row = row-after _ _ _ c.requires.row c.add_call.ensures in
    let texts = row-then _ _ _ _ _ _ c.args.front.now (line_pieces c.args.line.now) _ _ row c.in_ok-next.ensures.ok c.in_ok-next.ensures.end c.in_ok-end.ensures.ok in
    let end = c.in_ok-end.ensures.end ∙ reached-then _ _ _ c.args.front.now (line_pieces c.args.line.now) c.in_ok-next.ensures.end in
    on-ok c.put_end.result
    (λ p. called c.args.row (λ r. say_texts r (pos c.args.column) (line_texts c.args.front.now c.args.line.now) c.args.low c.args.high) _ _ _ c.add_call.ensures (row-end _ _ _ _ _ _ (line_texts c.args.front.now c.args.line.now) _ _ row texts end p))
    c.put_end.ensures.ok
