use Rattle.scm_beside_laws.proofs.BesideKeyLemmas.{keys-beside}
use Rattle.scm_beside_laws.proofs.laws.keys_have_rows_beside.Goals as goal

pub returns : goal.returns
returns c = keys-beside
