use Rattle.scm_front.proofs.BegunLemmas.{leads-jump}
use Rattle.scm_front.proofs.starting.select_in.Goals as goal

pub returns-clause-ok : goal.returns-clause-ok
returns-clause-ok c = leads-jump c.args.session c.in_ok-selected.selected c.args.first c.in_ok-selected.ensures.leads
