use Rattle.std.proofs.lemmas.Result.{IfOk-weaker}
use Rattle.scm_front.proofs.DoLemmas.{same-restoring}
use Rattle.scm_front.proofs.layer.restore_step.Goals as goal

pub returns-in-Ok-clause-ok : goal.returns-in-Ok-clause-ok
returns-in-Ok-clause-ok c =
    IfOk-weaker c.restored.result _ _ (λ turn r.
    same-restoring c.args.beneath c.args.query c.args.kept c.args.way c.in-Ok.what.wanted _ c.in-Ok.what.back _ turn c.in-Ok.ensures.wanted c.in-Ok.ensures.back r)
    c.restored.ensures.ok

pub returns-clause-ok : goal.returns-clause-ok
returns-clause-ok c = c.given_up.ensures.ok c.args.way _ _
