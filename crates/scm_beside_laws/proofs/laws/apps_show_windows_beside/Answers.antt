use Rattle.scm_beside_laws.proofs.BesideLemmas.{shows-beside}
use Rattle.scm_beside_laws.proofs.laws.apps_show_windows_beside.Goals as goal

pub returns : goal.returns
returns c = shows-beside c.rows_show_layers.ensures
