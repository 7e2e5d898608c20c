use Rattle.scm_terminal.proofs.SingleLemmas.{sent-alone}
use Rattle.scm_terminal.proofs.laws.symbols_of_one_character_are_sent.Goals as goal

pub returns : goal.returns
returns c = sent-alone
