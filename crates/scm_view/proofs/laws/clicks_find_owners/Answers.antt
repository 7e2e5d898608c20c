use Rattle.scm_view.proofs.WindowOwnerLemmas.{finds-owners}
use Rattle.scm_view.proofs.laws.clicks_find_owners.Goals as goal

pub returns : goal.returns
returns c = finds-owners
