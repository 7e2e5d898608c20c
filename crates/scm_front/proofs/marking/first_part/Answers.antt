use Rattle.std.proofs.lemmas.Result.{IfOk-weaker}
use Rattle.scm_front.proofs.marking.first_part.Goals as goal

pub returns-clause-ok : goal.returns-clause-ok
returns-clause-ok c = IfOk-weaker c.do_deeds.result _ _ (λ turn d. (_, d)) c.do_deeds.ensures.ok
