use Rattle.std.proofs.Common.{◌∙◌, ap}
use Rattle.scm_cells.specs.Replaced.{line_pieces}
use Rattle.scm_cells.specs.Spans.{span_texts}
use Rattle.scm_strips.proofs.RowLemmas.{cut-reach, cut-shown, if-ok, on-ok}
use Rattle.scm_strips.proofs.lines.put_long.Goals as goal

pub returns-clause-ok : goal.returns-clause-ok
returns-clause-ok c =
    let none = ap span_texts c.new-spans.ensures.items in
    on-ok c.put_spans.result
    (λ p. rw c.as_slice.ensures.value at p
    ∙ cut-shown c.args.row c.args.column _ _ _ (line_pieces c.args.line.now) c.args.low c.args.high c.args.grid.now none c.saturating_sub.ensures c.in_ok-push_first_spans.ensures.ok)
    c.put_spans.ensures.ok

pub returns-clause-end : goal.returns-clause-end
returns-clause-end c =
    let none = ap span_texts c.new-spans.ensures.items in
    if-ok c.put_spans.result _ _
    (λ n p. rw c.as_slice.ensures.value at p ∙ cut-reach c.args.column _ _ _ (line_pieces c.args.line.now) c.args.high none c.saturating_sub.ensures c.in_ok-push_first_spans.ensures.ok)
    c.put_spans.ensures.end
