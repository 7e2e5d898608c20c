use Rattle.scm_view.proofs.OwnerLemmas.{sections-owned}
use Rattle.scm_view.proofs.laws.sections_own_their_columns.Goals as goal

pub returns : goal.returns
returns c = sections-owned
