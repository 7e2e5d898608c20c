use Rattle.scm_terminal.proofs.GrammarLemmas.{one_token}
use Rattle.scm_terminal.proofs.laws.sequences_are_whole_tokens.Goals as goal

pub returns : goal.returns
returns c = one_token
