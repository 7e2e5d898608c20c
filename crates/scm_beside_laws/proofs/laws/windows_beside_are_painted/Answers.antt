use Rattle.scm_beside_laws.proofs.BesidePaintLemmas.{painted-beside}
use Rattle.scm_beside_laws.proofs.laws.windows_beside_are_painted.Goals as goal

pub returns : goal.returns
returns c = painted-beside c.rows_show_layers.ensures
