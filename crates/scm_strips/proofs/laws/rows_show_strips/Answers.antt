use Rattle.scm_strips.proofs.InlineLemmas.{shows-whole}
use Rattle.scm_strips.proofs.laws.rows_show_strips.Goals as goal

pub returns : goal.returns
returns c = shows-whole
