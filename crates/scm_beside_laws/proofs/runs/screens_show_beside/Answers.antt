use Rattle.scm_beside_laws.proofs.HeadlineLemmas.{screens-show}
use Rattle.scm_beside_laws.proofs.runs.screens_show_beside.Goals as goal

pub returns : goal.returns
returns c = screens-show c.apps_show_windows_beside.ensures c.ids_are_told_apart.ensures
