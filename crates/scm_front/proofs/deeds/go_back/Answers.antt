use Rattle.scm_front.proofs.DeedLemmas.{gone-back}
use Rattle.scm_front.proofs.deeds.go_back.Goals as goal

pub returns-clause-ok : goal.returns-clause-ok
returns-clause-ok c = gone-back c.args.mid c.in_ok-last.last c.args.back c.in_ok-last.ensures.value c.in_ok-last.ensures.leads
