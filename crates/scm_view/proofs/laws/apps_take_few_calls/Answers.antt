use Rattle.scm_view.proofs.FewLemmas.{few-calls-inline}
use Rattle.scm_view.proofs.laws.apps_take_few_calls.Goals as goal

pub returns : goal.returns
returns c = few-calls-inline
