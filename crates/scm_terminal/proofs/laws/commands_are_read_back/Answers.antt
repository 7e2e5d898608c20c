use Rattle.scm_terminal.proofs.ReadingLemmas.{read-readable}
use Rattle.scm_terminal.proofs.laws.commands_are_read_back.Goals as goal

pub returns : goal.returns
returns c = read-readable
