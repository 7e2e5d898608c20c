use Rattle.std.proofs.Common.{◌≡◌, take, sum_by}
use Rattle.scm_cells.specs.Clusters.{text_width}
use Rattle.scm_cells.specs.Spans.{span_texts}
use Rattle.scm_front_paint.specs.Capped.{capped}
use Rattle.scm_front_paint.proofs.columns.width_of_spans.Given as goal

abbrev pub invariant-loop-span : goal.invariant-loop-span
invariant-loop-span l = l.width ≡ capped (sum_by text_width (span_texts (take l.span-index l.spans)))
