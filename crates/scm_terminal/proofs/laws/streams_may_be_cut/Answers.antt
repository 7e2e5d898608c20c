use Rattle.scm_terminal.proofs.LawLemmas.{cuts}
use Rattle.scm_terminal.proofs.laws.streams_may_be_cut.Goals as goal

pub returns : goal.returns
returns c = cuts
