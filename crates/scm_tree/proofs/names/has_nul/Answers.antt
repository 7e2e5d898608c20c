use Rattle.std.proofs.Common.{◌∙◌}
use Rattle.scm_tree.specs.Records.{is_nul}
use Rattle.scm_tree.proofs.ByteLemmas.{any_place}
use Rattle.scm_tree.proofs.names.has_nul.Goals as goal

pub returns : goal.returns
returns c = c.is_some.ensures ∙ any_place is_nul c.args.name.now c.first_place.result c.first_place.ensures.is
