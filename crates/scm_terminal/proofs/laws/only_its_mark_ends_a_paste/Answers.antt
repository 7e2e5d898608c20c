use Rattle.scm_terminal.proofs.MarkLemmas.{stay_pasted}
use Rattle.scm_terminal.proofs.laws.only_its_mark_ends_a_paste.Goals as goal

pub returns : goal.returns
returns c = stay_pasted
