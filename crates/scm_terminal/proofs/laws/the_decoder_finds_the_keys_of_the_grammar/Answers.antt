use Rattle.scm_terminal.proofs.MeaningLemmas.{keys_agree}
use Rattle.scm_terminal.proofs.laws.the_decoder_finds_the_keys_of_the_grammar.Goals as goal

pub returns : goal.returns
returns c = keys_agree
