use Rattle.scm_terminal.proofs.TearingLemmas.{stay_pasted_torn}
use Rattle.scm_terminal.proofs.laws.a_silence_ends_no_paste.Goals as goal

pub returns : goal.returns
returns c = stay_pasted_torn
