use Rattle.scm_terminal.proofs.TearingLemmas.{freed}
use Rattle.scm_terminal.proofs.laws.a_lost_mark_locks_nobody_out.Goals as goal

pub returns : goal.returns
returns c = freed
