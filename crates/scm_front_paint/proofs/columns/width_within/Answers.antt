use Rattle.std.proofs.Common.{List, ap, ◌∙◌, sum_by}
use Rattle.scm_cells.specs.Clusters.{text_width}
use Rattle.scm_cells.specs.Spans.{span_texts}
use Rattle.scm_cells.specs.declared.text.Span.{Span}
use Rattle.scm_front_paint.specs.Capped.{capped}
use Rattle.scm_front_paint.proofs.ColumnLemmas.{width-within}
use Rattle.scm_front_paint.proofs.columns.width_within.Goals as goal

pub returns-clause-ok : goal.returns-clause-ok
returns-clause-ok c =
    c.min.ensures
    ∙ width-within c.args.most c.width_of_spans.result (span_texts c.new-spans.result.items) (span_texts c.push_first_spans.new.spans.items) c.args.text.now c.ranges.most.fits
    (ap span_texts c.new-spans.ensures.items) c.in_ok-push_first_spans.ensures.ok
    (c.width_of_spans.ensures ∙ ap (λ (spans : List Span). capped (sum_by text_width (span_texts spans))) c.as_slice.ensures.value)
