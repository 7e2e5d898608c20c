use Rattle.scm_terminal.proofs.TearingLemmas.{comes_once}
use Rattle.scm_terminal.proofs.laws.a_torn_sequence_comes_once.Goals as goal

pub returns : goal.returns
returns c = comes_once
