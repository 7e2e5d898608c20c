use Rattle.scm_terminal.proofs.LawLemmas.{paste_ended, paste_ended_rest}
use Rattle.scm_terminal.proofs.laws.a_paste_ends_with_its_mark.Goals as goal

pub returns : goal.returns
returns c = record { ends = paste_ended; waits = paste_ended_rest }
