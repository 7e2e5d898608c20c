use Rattle.scm_terminal.proofs.KeyLemmas.{typed}
use Rattle.scm_terminal.proofs.laws.each_key_can_be_typed.Goals as goal

pub returns : goal.returns
returns c = typed
