use Rattle.scm_beside_laws.proofs.HeadlineLemmas.{sessions-hit}
use Rattle.scm_beside_laws.proofs.runs.sessions_hit_owners_beside.Goals as goal

pub returns : goal.returns
returns c = sessions-hit c.screens_show_beside.ensures
