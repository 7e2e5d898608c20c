use Rattle.scm_terminal.proofs.LawLemmas.{escape_anew}
use Rattle.scm_terminal.proofs.laws.an_escape_begins_anew.Goals as goal

pub returns : goal.returns
returns c = escape_anew
