use Rattle.scm_beside_laws.proofs.HeadlineLemmas.{shots-beside, stored-beside}
use Rattle.scm_beside_laws.proofs.runs.runs_show_windows_beside.Goals as goal

pub returns-clause-shots : goal.returns-clause-shots
returns-clause-shots c = shots-beside c.screens_show_beside.ensures

pub returns-clause-stored : goal.returns-clause-stored
returns-clause-stored c = stored-beside c.screens_show_beside.ensures
