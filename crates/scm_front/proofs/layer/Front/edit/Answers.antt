use Rattle.scm_front.proofs.DoLemmas.{typed}
use Rattle.scm_front.proofs.layer.Front.edit.Goals as goal

pub returns-clause-ok : goal.returns-clause-ok
returns-clause-ok c = typed c.args.self c.args.typing c.in_ok-query.query c.saying.result c.in_ok-query.ensures.ok c.saying.ensures
