use Rattle.scm_tree.proofs.ToldApartLemmas.{told_apart}
use Rattle.scm_tree.proofs.laws.answers_are_told_apart.Goals as goal

pub returns : goal.returns
returns c = told_apart c.args.bytes.now c.args.answer.now
