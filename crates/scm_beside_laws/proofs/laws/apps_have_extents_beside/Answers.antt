use Rattle.scm_beside_laws.proofs.BesideExtentLemmas.{extents-beside}
use Rattle.scm_beside_laws.proofs.laws.apps_have_extents_beside.Goals as goal

pub returns : goal.returns
returns c = extents-beside
