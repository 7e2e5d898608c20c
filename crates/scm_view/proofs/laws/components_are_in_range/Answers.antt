use Rattle.scm_view.proofs.ComponentRangeLemmas.{components-in}
use Rattle.scm_view.proofs.laws.components_are_in_range.Goals as goal

pub returns : goal.returns
returns c = components-in
