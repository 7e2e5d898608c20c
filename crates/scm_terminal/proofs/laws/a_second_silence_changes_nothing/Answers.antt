use Rattle.scm_terminal.proofs.TearingLemmas.{silent}
use Rattle.scm_terminal.proofs.laws.a_second_silence_changes_nothing.Goals as goal

pub returns : goal.returns
returns c = silent
