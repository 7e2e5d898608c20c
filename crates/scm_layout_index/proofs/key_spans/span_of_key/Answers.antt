use Rattle.std.proofs.Common.{◌∙◌}
use Rattle.scm_layout_index.proofs.AnswerLemmas.{new-span}
use Rattle.scm_layout_index.proofs.FitLemmas.{state-fit}
use Rattle.scm_layout_index.proofs.key_spans.span_of_key.Goals as goal

pub rows_by_key-requires : goal.rows_by_key-requires
rows_by_key-requires c = state-fit c.args.rows.now c.requires

pub returns : goal.returns
returns c = λ shown is. c.rows_by_key.ensures ∙ new-span shown c.args.rows.now c.args.key is
