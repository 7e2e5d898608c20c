use Rattle.scm_strips.proofs.InlineLemmas.{owner-whole}
use Rattle.scm_strips.proofs.laws.rows_own_strips.Goals as goal

pub returns : goal.returns
returns c = owner-whole
