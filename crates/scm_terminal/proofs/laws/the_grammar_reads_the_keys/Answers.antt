use Rattle.scm_terminal.proofs.GrammarLemmas.{keys_read}
use Rattle.scm_terminal.proofs.laws.the_grammar_reads_the_keys.Goals as goal

pub returns : goal.returns
returns c = keys_read
