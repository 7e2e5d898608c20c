use Rattle.std.proofs.Common.{◌∙◌}
use Rattle.scm_layout_index.proofs.layout_index.LayoutIndex.span.Goals as goal

pub returns : goal.returns
returns c = λ w h s shown is. c.rows_by_key.ensures ∙ is.span c.args.key
