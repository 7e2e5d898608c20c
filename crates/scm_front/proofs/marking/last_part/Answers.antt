use Rattle.std.proofs.lemmas.Result.{IfOk-weaker}
use Rattle.scm_front.proofs.marking.last_part.Goals as goal

pub returns-clause-ok : goal.returns-clause-ok
returns-clause-ok c = IfOk-weaker c.do_round.result _ _ (λ turn d. (_, d)) c.do_round.ensures.ok
