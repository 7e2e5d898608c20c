use Rattle.scm_terminal.proofs.ReadingLemmas.{read-once}
use Rattle.scm_terminal.proofs.laws.bytes_are_read_in_one_way.Goals as goal

pub returns : goal.returns
returns c = read-once
