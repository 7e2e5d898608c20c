use Rattle.std.specs.Prelude.{None}
use Rattle.std.proofs.lemmas.Result.{IfErr-weaker}
use Rattle.scm_front_paint.specs.Views.{no_more, silence_failed}
use Rattle.scm_front_paint.proofs.view.View.idle.Goals as goal

pub returns-in-None-clause-ok : goal.returns-in-None-clause-ok
returns-in-None-clause-ok c = record { event = None; means = c.in-None.ensures; hears = no_more }

pub returns-in-Some-clause-err : goal.returns-in-Some-clause-err
returns-in-Some-clause-err c =
    IfErr-weaker c.hear_all.result _ _ (λ error h. silence_failed c.in-Some.event c.in-Some.ensures h) c.hear_all.ensures.err
