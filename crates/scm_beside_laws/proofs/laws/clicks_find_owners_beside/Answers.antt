use Rattle.scm_beside_laws.proofs.BesideOwnerLemmas.{finds-beside}
use Rattle.scm_beside_laws.proofs.laws.clicks_find_owners_beside.Goals as goal

pub returns : goal.returns
returns c = finds-beside
