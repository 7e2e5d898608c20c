use Rattle.scm_terminal.proofs.GrammarLemmas.{begins_with_parts}
use Rattle.scm_terminal.proofs.laws.tokens_are_whole_sequences.Goals as goal

pub returns : goal.returns
returns c = begins_with_parts
