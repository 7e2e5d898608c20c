use Rattle.scm_front.proofs.DoLemmas.{missed}
use Rattle.scm_front.proofs.layer.Front.search.Goals as goal

pub returns-in-None-clause-ok : goal.returns-in-None-clause-ok
returns-in-None-clause-ok c = missed c.args.self c.args.way c.with_word-query.result c.in-None.ensures c.with_word-query.ensures
