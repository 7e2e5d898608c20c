use Rattle.std.proofs.Common.{[]}
use Rattle.std.proofs.lemmas.Result.{IfErr-weaker}
use Rattle.std.specs.Prelude.{None}
use Rattle.scm_front.specs.Fronts.{no_more}
use Rattle.scm_front.proofs.layer.Front.idle.Goals as goal

pub returns-in-None-clause-ok : goal.returns-in-None-clause-ok
returns-in-None-clause-ok c = record { event = None; means = c.in-None.ensures; calls = []; hears = no_more }

pub returns-in-Some-clause-err : goal.returns-in-Some-clause-err
returns-in-Some-clause-err c =
    IfErr-weaker c.hear_all.result _ _ (λ error h. record { key = c.in-Some.event; means = c.in-Some.ensures; fails = h }) c.hear_all.ensures.err
