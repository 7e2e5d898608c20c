use Rattle.std.proofs.lemmas.Result.{IfOk-weaker}
use Rattle.scm_front.proofs.DoLemmas.{sought}
use Rattle.scm_front.proofs.layer.Front.seek.Goals as goal

pub returns-clause-ok : goal.returns-clause-ok
returns-clause-ok c =
    IfOk-weaker c.search.result _ _ (λ turn does. sought c.args.self c.in_ok-query.query turn c.in_ok-query.ensures.ok does) c.search.ensures.ok
