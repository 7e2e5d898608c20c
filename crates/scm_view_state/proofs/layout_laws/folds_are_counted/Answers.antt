use Rattle.scm_view_state.proofs.ViewRowLemmas.{folds-counted}
use Rattle.scm_view_state.proofs.layout_laws.folds_are_counted.Goals as goal

pub returns : goal.returns
returns c = λ s k sections. folds-counted s k 0 sections
