use Rattle.std.proofs.Common.{◌∙◌}
use Rattle.scm_layout_index.proofs.layout_index.LayoutIndex.owner_on.Goals as goal

pub returns : goal.returns
returns c = λ w h s shown is. c.owner_in.ensures ∙ is.owner c.args.owners.now.row c.args.column
