use Rattle.scm_terminal.proofs.ShowingTerminals.{steps}
use Rattle.scm_terminal.proofs.laws.terminals_show_symbols_as_they_like.Goals as goal

pub returns : goal.returns
returns c = steps
