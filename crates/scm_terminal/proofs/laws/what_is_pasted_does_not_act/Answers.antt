use Rattle.scm_terminal.proofs.PasteLemmas.{quiet}
use Rattle.scm_terminal.proofs.laws.what_is_pasted_does_not_act.Goals as goal

pub returns : goal.returns
returns c = quiet
