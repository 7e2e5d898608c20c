use Rattle.scm_beside_laws.proofs.HeadlineLemmas.{clicks-beside}
use Rattle.scm_beside_laws.proofs.runs.runs_hit_owners_beside.Goals as goal

pub returns : goal.returns
returns c = clicks-beside c.screens_show_beside.ensures
